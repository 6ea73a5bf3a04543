-- The lemmas of this crate, by subject.
pub mod RequestTests
pub mod SearchTests
pub mod RefusalTests
pub mod QuestionTests
pub mod GrowTests
pub mod HoldersTests
pub mod RefusedQuestionTests
