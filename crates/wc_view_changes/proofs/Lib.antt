pub mod Units
pub mod Initials
pub mod Leads
pub mod Between
pub mod Nothing
pub mod Wholes
pub mod Others
pub mod Variables
