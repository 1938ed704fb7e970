pub mod Basics
mod Numbers
mod Steps
pub mod Times
mod Ledger
mod Counts
pub mod Invariant
pub mod Refused
pub mod Trials
