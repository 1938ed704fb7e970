pub mod Model
pub mod Outcomes
pub mod Layout
