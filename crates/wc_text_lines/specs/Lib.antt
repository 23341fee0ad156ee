pub mod Words
pub mod LineViews
pub mod Meanings
