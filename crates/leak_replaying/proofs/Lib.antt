-- The lemmas of this crate, by subject.
pub mod TextLemmas
pub mod NumberingLemmas
pub mod ReplayingLemmas
pub mod UnderwayLemmas
pub mod FinishingLemmas
pub mod SharingLemmas
