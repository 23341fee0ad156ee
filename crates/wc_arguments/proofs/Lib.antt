pub mod Tables
pub mod Given
pub mod FormatWords
pub mod Plain
