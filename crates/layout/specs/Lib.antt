pub mod Digits
pub mod Sizes
pub mod Codes
pub mod Layouts
