-- The lemmas of this crate, by subject.
pub mod WordLemmas
pub mod EntryLemmas
pub mod ReachedBlockLemmas
pub mod FoundLemmas
