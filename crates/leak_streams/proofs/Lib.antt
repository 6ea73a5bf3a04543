-- The lemmas of this crate, by subject.
pub mod Consumed
pub mod Taken
pub mod Appended
