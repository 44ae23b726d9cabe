pub mod Counted
pub mod Counts
pub mod Instance
pub mod Standing
pub mod Tied
pub mod Unfit
pub mod Walks
