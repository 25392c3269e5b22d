pub mod Turns
pub mod Closing
pub mod New
