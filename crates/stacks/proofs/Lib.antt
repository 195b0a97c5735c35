pub mod Places
pub mod Units
pub mod Entries
pub mod Walks
