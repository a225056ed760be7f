pub mod Digits
pub mod Sources
pub mod Pairs
pub mod Opened
pub mod Told
