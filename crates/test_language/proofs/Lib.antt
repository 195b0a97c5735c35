pub mod Ready
pub mod Sound
pub mod Callees
pub mod Enters
