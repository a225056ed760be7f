pub mod Sessions
pub mod Accepts
pub mod Datagrams
pub mod Joining
pub mod Running
pub mod Hosting
pub mod Steady
