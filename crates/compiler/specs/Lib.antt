pub mod Definition
pub mod Represents
pub mod Promise
pub mod OpenPlaces
