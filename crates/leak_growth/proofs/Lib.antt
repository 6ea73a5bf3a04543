-- The lemmas of this crate, by subject.
pub mod RowLemmas
pub mod SumLemmas
pub mod RankLemmas
pub mod OrderLemmas
pub mod PartLemmas
pub mod GrowthLemmas
