pub mod Steps
pub mod Run
pub mod Inner
