pub mod Ids
pub mod Sums
pub mod Tests
