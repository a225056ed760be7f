pub mod Data
pub mod View
pub mod Fits
pub mod Blank
pub mod Leaves
pub mod Same
pub mod Merge
pub mod LeafValues
