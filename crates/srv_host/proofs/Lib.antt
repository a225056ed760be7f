pub mod Passing
pub mod Kept
pub mod Turning
pub mod Joined
pub mod Hosts
pub mod Heard
pub mod Begun
pub mod Settled
pub mod Replaced
mod Crossing
