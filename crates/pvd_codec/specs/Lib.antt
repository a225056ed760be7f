pub mod Grammar
pub mod Reading
pub mod Faults
pub mod Found
pub mod Written
pub mod Laws
