-- Laws of the definitions, in files of the same names, and what they rest on.
pub mod Load
pub mod Rules
pub mod RoundTrip
pub mod Moved
pub mod Promises
pub mod Run
