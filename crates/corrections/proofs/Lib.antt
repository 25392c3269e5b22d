pub mod LoopCode
pub mod HotRows
