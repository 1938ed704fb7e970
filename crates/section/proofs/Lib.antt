mod Trays
mod Works
mod Lines
mod Histories
mod Makings
mod Turns
