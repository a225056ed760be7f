pub mod Forms
pub mod Loading
pub mod Grammar
pub mod Places
