pub mod Horner
pub mod Dividing
pub mod Front
pub mod Taken
pub mod Writings
