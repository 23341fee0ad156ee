pub mod Text
pub mod Language
pub mod Instrument
pub mod Run
pub mod Say
pub mod Definitions
