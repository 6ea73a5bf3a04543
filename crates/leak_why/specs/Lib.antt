-- The definitions of this crate, by subject.
pub mod Asked
pub mod Leading
pub mod Chains
pub mod ReachedBlocks
pub mod Text
