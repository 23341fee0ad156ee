pub mod BlockUnits
pub mod Meanings
pub mod Readings
pub mod Walks
