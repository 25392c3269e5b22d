pub mod State
pub mod Path
pub mod Inner
