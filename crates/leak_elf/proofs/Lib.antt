-- The lemmas of this crate, by subject.
pub mod Accepted
pub mod Faults
pub mod HeadLengths
pub mod Heads
pub mod Held
pub mod Holders
pub mod Kept
pub mod Meeting
pub mod Meets
pub mod Plain
pub mod PlainWords
pub mod Samples
pub mod Sorted
pub mod Split
pub mod Zeros
pub mod KeptWords
