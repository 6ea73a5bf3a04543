-- The definitions of this crate, by subject.
pub mod Leads
pub mod Readings
pub mod Hits
pub mod Bounds
pub mod Directory
pub mod AddressPlaces
pub mod Rows
pub mod Ranks
pub mod Finder
pub mod Laws
