pub mod Replies
pub mod Inner
pub mod Lengths
pub mod States
pub mod Called
pub mod Examples
