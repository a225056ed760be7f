mod Vectors
pub mod Cutting
pub mod Joins
pub mod Bringing
pub mod Growing
pub mod Lending
pub mod Marks
pub mod Ending
pub mod Beginning
pub mod Taking
pub mod Body
pub mod Heads
pub mod Written
pub mod Cuts
pub mod ReadBack
pub mod Filling
