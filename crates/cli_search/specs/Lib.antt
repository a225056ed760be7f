pub mod Turning
pub mod Searching
pub mod Calls
