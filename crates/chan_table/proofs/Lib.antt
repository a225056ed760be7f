pub mod Absent
pub mod Filed
pub mod Gathered
pub mod Places
pub mod Standings
