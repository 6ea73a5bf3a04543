-- The definitions of this crate, by subject.
pub mod Answer
pub mod Asked
pub mod Failures
pub mod Files
pub mod InputTexts
pub mod Messages
pub mod Opening
pub mod Reasons
pub mod Sample
pub mod Start
pub mod TextLaws
pub mod WordTexts
