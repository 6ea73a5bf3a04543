-- The definitions of this crate, by subject.
pub mod Requests
pub mod SearchLines
pub mod Questions
pub mod QuestionLines
