pub mod Moves
pub mod Taking
pub mod Exchanging
pub mod LinkCalls
pub mod Turning
pub mod Exchanges
pub mod Updating
pub mod Following
