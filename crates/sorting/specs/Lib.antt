pub mod Order
pub mod Sort
pub mod Steps
