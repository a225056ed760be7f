pub mod Few
pub mod Moments
pub mod Weights
pub mod Histories
pub mod Legality
