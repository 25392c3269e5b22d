pub mod Sides
pub mod Part
