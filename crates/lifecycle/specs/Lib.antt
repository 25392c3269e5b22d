pub mod Lifecycle
pub mod Tracked
