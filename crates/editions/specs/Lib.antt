pub mod Read
pub mod Moves
