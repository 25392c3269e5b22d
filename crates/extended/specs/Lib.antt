pub mod Update
pub mod Play
pub mod Number
