pub mod TwoCells
