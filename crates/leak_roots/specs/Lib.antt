-- The definitions of this crate, by subject.
pub mod Places
pub mod LeftOut
pub mod Roots
pub mod Skipped
pub mod Pieces
pub mod Cut
pub mod Numbers
pub mod Laws
pub mod Rows
pub mod Counts
pub mod Kept
pub mod Found
