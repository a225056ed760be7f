pub mod Passing
pub mod Responses
pub mod Asking
pub mod Listening
pub mod Rounding
