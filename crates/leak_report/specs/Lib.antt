-- The definitions of this crate, by subject.
pub mod Totals
pub mod Places
pub mod Groups
pub mod Listing
pub mod Laws
pub mod Lines
pub mod Misfits
pub mod Report
pub mod Warnings
pub mod Examples
pub mod WarningExamples
pub mod Numbered
pub mod Meeting
pub mod TextExamples
pub mod Elsewhere
pub mod Sites
pub mod PlaceExamples
