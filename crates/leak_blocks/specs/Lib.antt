-- The definitions of this crate, by subject.
pub mod Span
pub mod Live
pub mod Steps
pub mod Small
pub mod Laws
pub mod Numbers
pub mod Runs
pub mod Windows
pub mod Examples
pub mod Outcome
