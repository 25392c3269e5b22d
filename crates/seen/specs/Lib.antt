pub mod Seen
pub mod Holds
pub mod Sound
