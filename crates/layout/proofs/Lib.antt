pub mod CodeLaws
pub mod DigitLaws
pub mod SizeLaws
