pub mod Runs
pub mod Merged
pub mod Told
pub mod Unread
pub mod Shown
pub mod Course
