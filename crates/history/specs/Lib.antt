pub mod Courses
pub mod Memories
pub mod Replies
pub mod Runs
pub mod Outcomes
pub mod Piles
