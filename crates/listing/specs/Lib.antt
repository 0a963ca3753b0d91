pub mod Numerals
pub mod Rows
pub mod Tables
pub mod Texts
