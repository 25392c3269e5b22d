pub mod Number
pub mod Refused
pub mod Listing
pub mod Answers
pub mod Names
