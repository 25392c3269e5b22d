pub mod Marks
pub mod Taking
pub mod Pairings
