-- The definitions of this crate, by subject.
pub mod Lists
pub mod Reach
pub mod Claims
pub mod Runs
pub mod Partition
pub mod Marks
pub mod Seats
pub mod Rounds
pub mod Halves
pub mod Stacks
pub mod Retraces
pub mod Laws
