pub mod Delivery
pub mod Frames
