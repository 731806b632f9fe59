-- The definitions that the contracts of this crate cite. `GraphLaws` has lemmas only.
pub mod Changes
pub mod Makes
pub mod Histories
pub mod Calls
pub mod Reading
pub mod GraphLaws
