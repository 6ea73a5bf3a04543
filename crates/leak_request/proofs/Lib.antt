-- The lemmas of this crate, by subject.
pub mod Complete
pub mod Items
pub mod Lines
pub mod Listing
pub mod Numbers
pub mod Subcommands
pub mod Values
pub mod ShownLemmas
