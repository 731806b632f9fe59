-- The definitions of this crate, for other crates to cite.
pub mod Tree
pub mod Solutions
pub mod Working
pub mod TopDown
pub mod Meaning
pub mod WorkedOut
pub mod Questions
pub mod SolutionLaws
pub mod WorkingLaws
pub mod QuestionLaws
pub mod Promise
pub mod SmallGraph
pub mod CheckExamples
pub mod Examples
