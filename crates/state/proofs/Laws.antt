-- Laws of the state's bytes: what a store does to the machine that they stand for, and what the program finds in them.
pub mod Code
pub mod Lock
pub mod View
pub mod Flags
pub mod Body
pub mod Changed
pub mod Told
pub mod Started
