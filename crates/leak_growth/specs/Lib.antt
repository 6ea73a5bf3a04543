-- The definitions of this crate, by subject.
pub mod Rows
pub mod Lines
pub mod Report
pub mod Growth
