pub mod Body
pub mod Added
pub mod Rules
