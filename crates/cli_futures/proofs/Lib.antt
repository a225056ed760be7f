pub mod Growing
pub mod Moving
pub mod Taken
pub mod Conversing
pub mod Collected
pub mod Given
