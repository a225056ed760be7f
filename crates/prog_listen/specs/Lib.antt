pub mod Setups
pub mod Listening
pub mod Laws
