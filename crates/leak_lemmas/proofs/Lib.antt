-- The lemmas of this crate, by subject.
pub mod Bools
pub mod Numbers
pub mod Orders
pub mod Lists
pub mod Ranges
pub mod Bytes
pub mod Members
pub mod Sums
