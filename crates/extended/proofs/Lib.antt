pub mod Lying
pub mod Ways
pub mod Updates
pub mod Raised
pub mod Grown
pub mod Kept
pub mod Number
