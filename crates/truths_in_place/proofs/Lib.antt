pub mod Places
pub mod Filling
pub mod Room
pub mod Turns
pub mod Seeing
pub mod New
