pub mod Access
pub mod Forms
pub mod Reading
