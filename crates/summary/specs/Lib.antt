pub mod Coverage
pub mod Totals
