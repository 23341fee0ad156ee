pub mod Fields
pub mod Keywords
pub mod WholeNumbers
