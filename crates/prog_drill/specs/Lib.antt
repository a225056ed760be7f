pub mod Drilling
pub mod Drives
