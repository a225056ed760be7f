pub mod TwoCells
pub mod Adding
