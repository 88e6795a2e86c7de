pub mod Bits
pub mod Frames
pub mod KeyTable
pub mod ScanCodes
