-- The lemmas of this crate, by subject.
pub mod EndsLemmas
pub mod Few
pub mod Listed
pub mod Listing
pub mod Narrowing
pub mod Near
pub mod Ones
pub mod RowCounts
pub mod Ranking
pub mod Ranked
