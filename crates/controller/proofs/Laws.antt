-- Laws of the promises in specs/.
pub mod Events
pub mod Run
pub mod Promises
