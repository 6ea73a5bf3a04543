-- The lemmas of this crate, by subject.
pub mod Addresses
pub mod Ranges
pub mod Gaps
pub mod BySegment
pub mod Cutting
pub mod Bridges
pub mod Spans
pub mod LeftOut
pub mod RootPlaces
pub mod Found
pub mod Few
pub mod Numbered
pub mod Whole
