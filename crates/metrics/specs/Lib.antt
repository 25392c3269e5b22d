pub mod State
pub mod Counts
pub mod Sound
