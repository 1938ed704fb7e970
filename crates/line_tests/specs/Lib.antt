pub mod Stutter
