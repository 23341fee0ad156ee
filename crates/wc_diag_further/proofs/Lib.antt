pub mod Mended
pub mod Steps
