mod Done
pub mod Laws
