pub mod Growth
pub mod Distinct
pub mod Faults
