pub mod Played
pub mod Lines
pub mod Files
