pub mod Keeping
pub mod Laws
pub mod Meaning
pub mod PerStation
pub mod Printer
pub mod PrinterLaws
pub mod Telephone
pub mod TelephoneLaws
