pub mod Asked
pub mod Events
