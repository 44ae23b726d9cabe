pub mod Files
pub mod Lines
pub mod Played
pub mod LineCalls
pub mod RefusedLines
