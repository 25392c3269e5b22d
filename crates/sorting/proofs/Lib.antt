pub mod Permutes
pub mod Sorts
pub mod Falls
pub mod Places
pub mod Insertion
pub mod Merging
pub mod MergeTurns
pub mod Halves
