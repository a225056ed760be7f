pub mod Words
pub mod Opening
pub mod Printing
