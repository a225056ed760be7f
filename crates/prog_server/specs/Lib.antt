pub mod Words
pub mod Telling
pub mod Running
pub mod Sources
pub mod Completeness
pub mod Serving
