pub mod ByLayout
pub mod Damage
pub mod Images
pub mod Opened
pub mod Resting
