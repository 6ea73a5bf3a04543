-- The definitions of this crate, by subject.
pub mod Alike
pub mod AlikeRows
pub mod Nowhere
pub mod AskedWords
pub mod AlikeHolders
pub mod AlikeRefusals
pub mod OneHead
pub mod SiftedCores
pub mod Listings
pub mod AlikeToMark
pub mod SiftedHolders
pub mod SiftedRows
