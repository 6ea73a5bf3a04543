-- The definitions of this crate, by subject.
pub mod Stacks
pub mod Lows
pub mod Dead
