pub mod Border
pub mod Pasting
pub mod Turns
