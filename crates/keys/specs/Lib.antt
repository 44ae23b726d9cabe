pub mod Keys
pub mod Sizes
