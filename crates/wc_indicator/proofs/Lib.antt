pub mod Near
pub mod Windows
pub mod Units
pub mod LeftByCommands
