pub mod Paths
pub mod Naming
pub mod Digits
pub mod Asked
pub mod Sound
