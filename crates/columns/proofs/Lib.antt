pub mod Runs
pub mod Laws
