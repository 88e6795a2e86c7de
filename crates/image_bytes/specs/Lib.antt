pub mod Checks
pub mod Sum
pub mod Edition
pub mod Layout
pub mod Seal
pub mod Find
