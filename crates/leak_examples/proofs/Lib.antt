-- The lemmas of this crate, by subject.
pub mod HeapLemmas
pub mod GraphTests
pub mod ChainTests
pub mod SearchTests
pub mod Logs
pub mod BoundLogs
pub mod GrowthLogs
pub mod GrowthTests
pub mod ReasonTests
pub mod HoldingTests
pub mod TwoTests
