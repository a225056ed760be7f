pub mod Types
pub mod Shared
pub mod Code
pub mod Reading
pub mod Named
pub mod Grammar
pub mod Faults
