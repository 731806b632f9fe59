-- What a reader of the contracts must believe: requests and their course, and the questions.
pub mod Questions
pub mod Requests
