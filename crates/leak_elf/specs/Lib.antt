-- The definitions of this crate, by subject.
pub mod Fields
pub mod Headers
pub mod Head
pub mod HeadLength
pub mod Plain
pub mod Refusals
pub mod Segments
pub mod Words
pub mod Sample
pub mod Aligned
