pub mod WordLaws
pub mod SignedLaws
pub mod CutLaws
pub mod SumLaws
pub mod SizeBound
