-- The definitions of this crate, by subject.
pub mod Reading
pub mod Reads
pub mod Pieces
pub mod Writes
pub mod Laws
