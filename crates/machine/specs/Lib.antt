pub mod Commits
pub mod InPlace
