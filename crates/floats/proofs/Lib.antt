pub mod Tests
pub mod Order
pub mod Negation
pub mod Zero
pub mod Steps
pub mod Whole
