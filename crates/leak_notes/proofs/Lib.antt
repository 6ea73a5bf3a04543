-- The lemmas of this crate, by subject.
pub mod Gathering
pub mod Parts
pub mod PickLemmas
pub mod FirstLemmas
