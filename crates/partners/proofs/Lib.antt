pub mod Turns
pub mod Fresh
pub mod Meaning
pub mod Lasts
