pub mod Correction
pub mod Inner
