pub mod Shown
pub mod Asked
pub mod Table
