pub mod Nan
pub mod Integers
pub mod Exact
pub mod Apart
pub mod Answers
