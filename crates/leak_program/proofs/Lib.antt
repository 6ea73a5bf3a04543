-- The lemmas of this crate, by subject.
mod Lines
mod Paths
mod Refusals
mod SampleLemmas
pub mod OpeningLemmas
mod TextLemmas
