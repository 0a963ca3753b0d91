pub mod Runs
pub mod PairReads
pub mod Batches
pub mod Calls
pub mod Histories
pub mod Laws
pub mod TermBound
