-- The definitions of this crate, by subject.
pub mod Decided
pub mod Number
pub mod Line
pub mod CallPlace
pub mod Log
pub mod Reading
pub mod Parts
pub mod Examples
pub mod Laws
