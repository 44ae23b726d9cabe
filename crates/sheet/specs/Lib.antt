pub mod Sheet
pub mod Called
pub mod Shown
pub mod Examples
