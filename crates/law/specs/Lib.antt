pub mod Laws
pub mod Runs
pub mod Safety
pub mod Trials
pub use Rattle.rules.specs.History
