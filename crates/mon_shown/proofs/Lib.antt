mod Readying
mod Kept
mod Least
mod Listing
mod Standing
mod Taking
pub mod Viewing
