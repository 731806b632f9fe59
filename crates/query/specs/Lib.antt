-- The definitions of this crate, for other crates to cite.
pub mod Entries
pub mod Every
pub mod First
pub mod Rules
pub mod Sizes
pub mod WellFormed
