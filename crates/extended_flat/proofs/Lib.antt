pub mod Laws
pub mod Ways
pub mod One
