pub mod Histories
pub mod Paging
pub mod Units
