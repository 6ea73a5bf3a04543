-- The definitions of this crate, by subject.
pub mod Entry
pub mod Threads
pub mod Rows
pub mod Sets
pub mod Stacks
