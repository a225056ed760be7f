pub mod Within
pub mod Kept
pub mod Lists
pub mod Loadings
pub mod RecordsRead
pub mod Relations
pub mod Stopping
