-- Laws of the definitions, in files of the same names.
pub mod Read
pub mod Moves
