mod Moving
mod Conversing
mod Networked
mod Routed
mod Caused
mod Overs
