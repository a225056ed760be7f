pub mod Streams
pub mod Views
pub mod Moves
pub mod Served
pub mod Faults
pub mod Turning
pub mod Laws
