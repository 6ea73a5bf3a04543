-- The definitions of this crate, by subject.
pub mod Streams
pub mod Inputs
pub mod Rules
pub mod Tasks
pub mod Passing
pub mod Answers
pub mod Run
pub mod Laws
