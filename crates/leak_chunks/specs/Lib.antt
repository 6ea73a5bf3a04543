-- The definitions of this crate, by subject.
pub mod Fit
pub mod Rows
pub mod FreeLinks
pub mod LinkRows
pub mod Slack
pub mod SlackRows
