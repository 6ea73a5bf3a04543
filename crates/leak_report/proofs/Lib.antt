-- The lemmas of this crate, by subject.
pub mod Leaks
pub mod Joins
pub mod Listed
pub mod Ranks
pub mod Firsts
pub mod Orders
pub mod Ascending
pub mod TextLemmas
pub mod Sums
pub mod Callers
pub mod MisfitLemmas
pub mod SiteLemmas
pub mod PlaceLemmas
pub mod MeetingLemmas
pub mod SortLemmas
pub mod NumberLemmas
pub mod ElsewhereLemmas
