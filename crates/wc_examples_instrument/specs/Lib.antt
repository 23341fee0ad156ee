pub mod Worked
pub mod Numerals
pub mod FirstJob
pub mod Changes
