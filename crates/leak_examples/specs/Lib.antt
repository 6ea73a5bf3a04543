-- The definitions of this crate, by subject.
pub mod Heap
pub mod WorkedHeap
pub mod Chains
pub mod Distances
pub mod Told
pub mod Searches
pub mod Bounds
pub mod TwoSearches
pub mod Reasons
pub mod Holding
pub mod Growth
pub mod Statuses
pub mod Stacks
