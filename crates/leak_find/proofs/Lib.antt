-- The lemmas of this crate, by subject.
pub mod InputLemmas
pub mod TriedLemmas
pub mod AnswerLemmas
pub mod PassLemmas
pub mod HolderLemmas
pub mod ViewLemmas
pub mod RunViews
pub mod TellLemmas
