-- The lemma files of this crate, for other crates to cite.
pub mod AppliedLaws
pub mod EqualLaws
pub mod LookupLaws
pub mod MarkLaws
pub mod OverlayLaws
pub mod ReadingLaws
pub mod ScanLaws
pub mod StoreLaws
