pub mod Steps
pub mod Parts
pub mod Ranges
pub mod Trims
