pub mod Cuts
pub mod Exact
pub mod Words
pub mod Sums
