pub mod ActingBytes
pub mod Calm
pub mod CalmTexts
pub mod OnLines
