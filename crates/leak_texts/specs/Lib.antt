-- The definitions of this crate, by subject.
pub mod Texts
pub mod Finding
pub mod Rows
