pub mod Words
pub mod Dictionary
pub mod Chains
pub mod Callees
pub mod System
