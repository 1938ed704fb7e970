pub mod SameRuns
mod Refused
mod Trials
