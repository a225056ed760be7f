pub mod Addresses
pub mod Guids
