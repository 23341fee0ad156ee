mod Positions
pub mod Breaking
pub mod Placing
mod Units
