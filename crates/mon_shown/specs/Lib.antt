pub mod Channels
pub mod Keeping
pub mod Noting
pub mod Readies
pub mod Slots
pub mod Viewing
pub mod Rolls
pub mod Answers
