pub mod Meanings
pub mod Floor
