pub mod Refusals
pub mod Entries
pub mod Bodies
pub mod Fields
