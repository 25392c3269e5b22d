pub mod Metrics
pub mod Bounds
