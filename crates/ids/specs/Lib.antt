pub mod Ids
pub mod Chains
