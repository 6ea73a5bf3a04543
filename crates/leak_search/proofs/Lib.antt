-- The lemmas of this crate, by subject.
pub mod InputLemmas
pub mod PairLemmas
pub mod SearchLemmas
pub mod SearchedLemmas
pub mod ListedLemmas
pub mod SizeLemmas
pub mod TwoLemmas
pub mod WhyLemmas
pub mod LawLemmas
pub mod SignLemmas
pub mod EndsLemmas
