pub mod Digits
mod SpacedNumbers
mod ScanText
