-- The lemmas of this crate, by subject.
pub mod MadeLemmas
pub mod StackLemmas
