pub mod Offending
pub mod Unreached
