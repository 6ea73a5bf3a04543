-- The lemmas of this crate, by subject.
pub mod SplitLemmas
pub mod CallLemmas
pub mod DigitLemmas
pub mod BodyLemmas
pub mod DecideLemmas
pub mod PairLemmas
pub mod SpotLemmas
pub mod CallPlaceLemmas
pub mod LineLemmas
pub mod LogLemmas
pub mod OneLineLemmas
pub mod CutLemmas
pub mod CallerLemmas
pub mod SameLogLemmas
pub mod FitLemmas
pub mod ReadingLemmas
pub mod PartLemmas
