-- The definitions of this crate, by subject.
pub mod Texts
pub mod Numbering
pub mod Replaying
pub mod Outcome
