pub mod Looking
pub mod Standing
pub mod Ports
pub mod Effects
pub mod Begun
pub mod PutGets
pub mod Subscribing
pub mod Desks
