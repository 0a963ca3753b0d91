pub mod Terms
pub mod Scales
pub mod Smalls
pub mod Readings
pub mod Offers
