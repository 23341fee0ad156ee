pub mod LinesAbove
pub mod Assembled
pub mod OneLine
pub mod OneObject
pub mod PlacedWarnings
pub mod Statements
