-- The lemmas of this crate.
mod Collecting
mod Lexing
mod Summing
