pub mod Declaring
pub mod Leaving
