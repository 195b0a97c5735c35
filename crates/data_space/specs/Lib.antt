pub mod Space
pub mod Lending
pub mod Apart
pub mod Blanks
