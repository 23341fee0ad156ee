pub mod Loads
pub mod Blocks
