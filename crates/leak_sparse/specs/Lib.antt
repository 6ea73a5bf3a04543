-- The definitions of this crate, by subject.
pub mod Bits
pub mod Groups
pub mod Pushed
pub mod Words
pub mod Rows
