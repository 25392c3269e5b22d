pub mod Fitting
pub mod Agreement
pub mod Finals
pub mod Everywhere
pub mod Soundness
pub mod Kept
pub mod Machine
