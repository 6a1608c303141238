mod Prelude
pub mod Dealing
pub mod TokenLemmas
pub mod PictureLemmas
pub mod SeatLemmas
pub mod TogetherLemmas
pub mod WorldLemmas
pub mod RunLemmas
pub mod StringLemmas
