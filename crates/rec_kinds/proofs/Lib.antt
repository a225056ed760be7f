pub mod Counts
pub mod Clips
pub mod Rows
pub mod Built
pub mod Keeping
pub mod Telling
pub mod Ranged
