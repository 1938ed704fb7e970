pub mod Bytes
pub mod Calls
pub mod Faults
pub mod Kinds
pub mod Stations
pub mod Words
