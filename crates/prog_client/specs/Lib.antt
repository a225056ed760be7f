pub mod Dialing
pub mod LinkCalls
pub mod Networking
pub mod Routes
pub mod Statuses
pub mod Over
