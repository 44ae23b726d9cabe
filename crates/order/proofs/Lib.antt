pub mod Room
pub mod Bounded
pub mod Stays
pub mod StaysWaits
pub mod Search
pub mod Reached
