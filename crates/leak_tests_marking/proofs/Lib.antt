-- The lemmas of this crate, by subject.
pub mod RowLemmas
