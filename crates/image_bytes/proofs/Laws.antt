-- Laws of the definitions, in files of the same names, and what they rest on.
pub mod Checks
pub mod Sum
pub mod Layout
pub mod Seal
pub mod Find
pub mod Trailer
