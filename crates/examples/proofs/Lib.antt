pub mod Steps
pub mod Example5
pub mod Example6
pub mod Example8
pub mod Sizes
pub mod Example13
pub mod Sixteen
