pub mod Paired
pub mod Compared
mod Example
