pub mod Selection
pub mod Options
pub mod Requests
pub mod Said
pub mod Given
