-- The lemmas of this crate, by subject.
pub mod PlaceLemmas
pub mod FindingLemmas
pub mod TableLemmas
