pub mod Copies
pub mod Sums
pub mod Numbers
pub mod Placed
pub mod Ways
pub mod Branches
