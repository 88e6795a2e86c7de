-- Laws of the text and of the page.
pub mod Hex
pub mod Lines
pub mod Page
