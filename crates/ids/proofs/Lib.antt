pub mod Lookups
pub mod NoneTwice
pub mod Ascending
pub mod Buckets
pub mod Chains
pub mod Links
