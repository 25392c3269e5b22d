pub mod Listing
pub mod InPlace
pub mod Frames
