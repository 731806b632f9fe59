pub mod Areas
pub mod Gathering
pub mod Evaluation
pub mod Solving
pub mod Partners
