pub mod Index
pub mod Square
