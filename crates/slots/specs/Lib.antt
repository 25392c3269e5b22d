pub mod Slots
pub mod Sound
pub mod Every
