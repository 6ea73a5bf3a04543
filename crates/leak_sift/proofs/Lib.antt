-- The lemmas of this crate, by subject.
pub mod BehindLemmas
pub mod KeptLemmas
pub mod NearLemmas
pub mod CalmLemmas
pub mod PlaceLemmas
pub mod WordLemmas
pub mod RunLemmas
pub mod PartLemmas
pub mod TakenLemmas
pub mod OrderLemmas
pub mod ThreadLemmas
pub mod BitsLemmas
pub mod NearBitLemmas
pub mod DroppedLemmas
pub mod GroupLemmas
