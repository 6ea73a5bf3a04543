-- The lemmas of this crate, by subject.
pub mod Ranges
pub mod Runs
pub mod Ahead
pub mod Leading
pub mod Reached
pub mod KeptWords
pub mod Advance
pub mod Listing
pub mod Held
pub mod RootRanges
pub mod Blocks
