-- The lemma files of this crate, for other crates to cite.
pub mod Comparing
pub mod Ascents
pub mod Ranks
pub mod Parts
pub mod Changes
pub mod InsertAll
pub mod Orders
pub mod ListLaws
pub mod Members
pub mod Loops
pub mod Every
pub mod SetOperations
pub mod Nexts
pub mod SetLaws
pub mod Holders
