pub mod FirstLines
pub mod Partings
pub mod Faults
