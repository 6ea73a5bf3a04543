-- The definitions of this crate, by subject.
pub mod LeftOut
pub mod Inputs
pub mod Report
pub mod Signs
pub mod Why
pub mod Search
pub mod Searched
pub mod Listed
pub mod SearchTwo
pub mod Laws
pub mod EndsLaw
