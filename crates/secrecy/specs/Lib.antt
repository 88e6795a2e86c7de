pub mod Paired
pub mod Compared
