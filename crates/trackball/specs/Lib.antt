pub mod Counters
pub mod Trackball
pub mod Packets
pub mod Commands
pub mod View
pub mod Worked
