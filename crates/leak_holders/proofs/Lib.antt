-- The lemmas of this crate, by subject.
pub mod Numbers
pub mod Bits
pub mod Owning
pub mod Held
pub mod Within
pub mod Ranks
pub mod Orders
pub mod Telling
pub mod Parts
pub mod AddedUp
