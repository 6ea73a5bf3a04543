-- The definitions of this crate, by subject.
pub mod Targets
pub mod Windows
pub mod Positions
pub mod RootWords
pub mod Scans
pub mod Heads
pub mod Dropped
pub mod Rows
