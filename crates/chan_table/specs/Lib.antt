pub mod Codes
pub mod Filing
pub mod Index
pub mod Kept
pub mod Lends
pub mod Numbers
pub mod Standing
pub mod Tables
