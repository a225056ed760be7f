pub mod Merging
pub mod Folding
pub mod Showing
pub mod Courses
pub mod Rings
pub mod Unreading
pub mod Crossing
