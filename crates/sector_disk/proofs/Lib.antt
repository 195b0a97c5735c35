pub mod Fates
pub mod FileCalls
pub mod Moments
