pub mod Counting
pub mod Gathering
