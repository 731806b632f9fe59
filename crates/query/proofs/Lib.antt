-- The lemma files of this crate, for other crates to cite.
pub mod Facts
pub mod Fields
pub mod Loops
pub mod Sums
pub mod Tree
pub mod WellFormed
