pub mod Faults
pub mod Verdicts
pub mod Sheets
pub mod Steps
