pub mod Ways
pub mod One
