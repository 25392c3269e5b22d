pub mod State
pub mod Metrics
pub mod Sound
