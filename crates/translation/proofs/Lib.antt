pub mod Tests
pub mod Lists
pub mod Frame
pub mod KeyTable
pub mod ScanCodes
