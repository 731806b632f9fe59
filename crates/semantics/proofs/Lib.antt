-- The lemma files of this crate, for other crates to cite.
pub mod Truths
pub mod Triples
pub mod Meaning
pub mod Cuts
pub mod Ignoring
pub mod Trees
pub mod Sizes
pub mod WorkedOut
pub mod Blanks
pub mod Questions
pub mod Wellformed
pub mod Memory
pub mod Promised
pub mod Computed
