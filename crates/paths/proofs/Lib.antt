pub mod Queue
pub mod FlipKeeps
pub mod BfsCode
pub mod FlipCode
pub mod PathCode
pub mod PathLaws
pub mod Via
pub mod Rows
