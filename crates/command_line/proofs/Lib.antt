pub mod Given
pub mod CommandRows
pub mod Alone
pub mod Building
pub mod Input
