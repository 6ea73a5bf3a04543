-- The definitions of this crate, by subject.
pub mod Behind
pub mod Grouped
pub mod Kept
pub mod KeptRows
pub mod Passed
pub mod Places
pub mod Runs
pub mod Sifted
pub mod SiftedRows
