pub mod Tables
pub mod Frames
