pub mod Image
pub mod Save
pub mod Load
pub mod Restored
pub mod Promises
pub mod Run
