pub mod Lookups
pub mod Texts
