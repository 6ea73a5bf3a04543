-- The lemmas of this crate, by subject.
pub mod BitLemmas
pub mod RankLemmas
pub mod LowestLemmas
pub mod ViewLemmas
pub mod NextLemmas
pub mod RangeLemmas
pub mod ChangeLemmas
pub mod BitChangeLemmas
pub mod PushLemmas
pub mod AheadLemmas
pub mod AppendLemmas
pub mod RetainBitsLemmas
pub mod RestLemmas
pub mod MoveLemmas
pub mod RetainLemmas
pub mod PushedLemmas
pub mod WholeLemmas
