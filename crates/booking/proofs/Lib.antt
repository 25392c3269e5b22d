pub mod Numbered
pub mod Written
pub mod Appended
pub mod Named
pub mod Paired
