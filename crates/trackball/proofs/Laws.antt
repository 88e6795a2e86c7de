-- Laws of the definitions, in files of the same names.
pub mod Counters
pub mod Trackball
pub mod Packets
pub mod Commands
pub mod Worked
