pub mod Updated
