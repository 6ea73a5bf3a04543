-- The definitions of this crate, by subject.
pub mod Escaped
pub mod Address
pub mod CommandLine
pub mod Displacements
pub mod FoundRows
pub mod Questions
pub mod Requests
pub mod Unmatched
