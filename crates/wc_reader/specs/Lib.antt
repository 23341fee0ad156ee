pub mod TextViews
pub mod Reported
