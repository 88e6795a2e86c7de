pub mod Flags
pub mod Kinds
pub mod View
pub mod Changed
pub mod Told
pub mod Started
