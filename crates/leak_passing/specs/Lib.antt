-- The definitions of this crate, by subject.
pub mod Underway
pub mod Begun
pub mod Rest
pub mod Sifting
pub mod Kept
pub mod ByTexts
pub mod Prepared
pub mod Left
pub mod Passed
pub mod Holding
