mod DigitValues
mod HexDigits
mod ThreeFields
mod StatusBits
mod RecordEnds
mod ReadRecords
pub mod LogSteps
mod Cuts
mod Representation
mod CutRecords
mod Marks
mod Passing
pub mod WholeLines
