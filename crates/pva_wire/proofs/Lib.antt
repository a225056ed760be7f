pub mod Takes
pub mod Digits
pub mod Sizes
pub mod Texts
pub mod OneReading
pub mod BitsHeld
pub mod BitsRead
pub mod Statuses
