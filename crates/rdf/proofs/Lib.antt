pub mod RowLaws
pub mod Places
mod PlaceLoops
