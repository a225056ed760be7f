pub mod Shows
pub mod Brings
pub mod Lists
