pub mod Ways
pub mod Kept
pub mod New
