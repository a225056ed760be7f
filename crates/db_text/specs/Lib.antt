pub mod Macros
pub mod Expanding
pub mod Stops
pub mod Faults
pub mod Cutting
pub mod Plain
pub mod Grammar
pub mod Expansion
