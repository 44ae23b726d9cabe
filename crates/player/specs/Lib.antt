pub mod Turns
pub mod Several
pub mod Ahead
pub mod Sheets
