-- The definitions of this crate, by subject.
pub mod Since
pub mod Listed
pub mod Analyses
pub mod Text
pub mod Rows
pub mod Holders
pub mod Held
pub mod Answers
