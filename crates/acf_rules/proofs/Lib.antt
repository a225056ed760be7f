pub mod Steps
pub mod Readings
pub mod Maps
pub mod Granting
