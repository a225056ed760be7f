pub mod Prefixes
pub mod Stories
pub mod Judged
