-- The definitions of this crate, by subject.
pub mod Differing
pub mod Pieces
pub mod Kept
pub mod Retrace
pub mod Examples
