pub mod Tables
pub mod Faults
pub mod Kept
