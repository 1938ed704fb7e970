mod Ring
pub mod Facts
pub mod Lists
mod Runs
