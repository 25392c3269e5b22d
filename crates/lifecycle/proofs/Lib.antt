pub mod Final
pub mod Kept
