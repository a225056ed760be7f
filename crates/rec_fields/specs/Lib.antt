pub mod Types
pub mod Shown
pub mod Puts
pub mod Given
pub mod Again
pub mod Plain
