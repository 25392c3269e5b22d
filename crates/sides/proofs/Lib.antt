pub mod OneTest
