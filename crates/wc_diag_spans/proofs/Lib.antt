pub mod Columns
pub mod LineCuts
pub mod Meaning
pub mod RowFields
