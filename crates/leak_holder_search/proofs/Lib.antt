-- The lemmas of this crate, by subject.
pub mod TextLemmas
pub mod NumberLemmas
pub mod RowLemmas
pub mod GraphLemmas
pub mod FindLemmas
pub mod BothLemmas
pub mod HeldLemmas
