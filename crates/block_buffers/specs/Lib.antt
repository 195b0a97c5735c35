pub mod Buffers
pub mod Seen
