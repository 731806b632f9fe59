-- The definitions of this crate, for other crates to cite.
pub mod Lists
pub mod Order
pub mod Lexical
pub mod OrderLaws
pub mod Sets
pub mod OrderedLists
pub mod SetLaws
