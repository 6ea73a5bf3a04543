-- The lemmas of this crate, by subject.
pub mod LineLemmas
pub mod NumberLemmas
pub mod CarryLemmas
pub mod WordLemmas
pub mod DifferLemmas
pub mod PieceLemmas
pub mod StartLemmas
pub mod CountLemmas
pub mod SizeLemmas
pub mod ByteLemmas
