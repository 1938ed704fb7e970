pub mod Called
pub mod Made
pub mod Played
pub mod Running
pub mod State
pub mod Work
