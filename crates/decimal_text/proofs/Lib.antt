pub mod Decimals
pub mod Laying
pub mod Names
pub mod Finite
