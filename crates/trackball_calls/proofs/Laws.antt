-- Laws of the definitions, in files of the same names.
pub mod Stored
