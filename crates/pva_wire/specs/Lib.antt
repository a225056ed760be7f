pub mod Input
pub mod Spelling
pub mod Reading
pub mod Faults
pub mod Bits
pub mod Status
pub mod Laws
