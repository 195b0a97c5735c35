pub mod Links
pub mod Kept
pub mod Rows
pub mod Mixed
pub mod Said
