pub mod Numbers
pub mod Floors
