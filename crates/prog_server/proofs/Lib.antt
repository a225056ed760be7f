mod Making
mod Outcomes
mod Command
mod Rows
mod Completing
mod Served
