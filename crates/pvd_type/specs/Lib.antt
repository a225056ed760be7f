pub mod Tree
pub mod View
pub mod Numbers
pub mod Check
pub mod Siblings
pub mod Same
pub mod SameLaws
pub mod Sets
