-- The lemmas of this crate, by subject.
pub mod HeadLemmas
pub mod ByteLemmas
pub mod PieceLemmas
pub mod AheadLemmas
pub mod KeptLemmas
pub mod LogLemmas
pub mod ReaderLemmas
pub mod FoundLemmas
pub mod ByTextLemmas
pub mod PreparedLemmas
pub mod LeftLemmas
pub mod HoldingLemmas
