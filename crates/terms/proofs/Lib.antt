pub mod SumLaws
pub mod ProductLaws
pub mod PlaceLaws
pub mod ReadingLaws
pub mod SpecialLaws
