pub mod Truth
pub mod Index
pub mod Count
pub mod Gather
pub mod Square
pub mod Picking
