pub mod Stacks
pub mod Places
pub mod Lending
pub mod Entries
