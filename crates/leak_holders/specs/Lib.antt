-- The definitions of this crate, by subject.
pub mod Holders
pub mod Words
pub mod Tallies
pub mod Parts
pub mod Laws
pub mod Examples
