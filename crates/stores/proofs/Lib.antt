pub mod ByLayout
pub mod Damage
pub mod Opened
pub mod OwnMaps
pub mod Resting
pub mod Results
