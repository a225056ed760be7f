pub mod Resting
pub mod Passing
pub mod Finishing
pub mod Feeding
mod Moving
mod Stopping
mod Answering
mod Going
mod GoingOn
pub mod Ending
mod Turns
mod Determined
mod Told
