-- The lemmas of this crate, by subject.
pub mod BoolLemmas
pub mod ListLemmas
pub mod ElementLemmas
pub mod PartitionLemmas
pub mod ReachLemmas
pub mod RunLemmas
pub mod RoundLemmas
pub mod HalfLemmas
pub mod StackLemmas
pub mod ClaimLemmas
pub mod Places
pub mod Totals
pub mod Moves
pub mod Outcomes
pub mod LateStore
pub mod Words
