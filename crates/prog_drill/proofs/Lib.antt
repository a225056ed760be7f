mod Pumping
mod Uncounted
mod Drawing
mod Totalling
mod Summing
