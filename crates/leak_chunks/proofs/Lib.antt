-- The lemmas of this crate, by subject.
pub mod Starts
pub mod SlackLemmas
