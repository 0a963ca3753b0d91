pub mod CellLaws
pub mod SizedLaws
pub mod RoundLaws
pub mod StepLaws
