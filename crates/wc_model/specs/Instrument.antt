-- The instrument: plate, indication, line.
pub mod Rounding
pub mod Plates
pub mod PlateTable
pub mod WeighingHistories
pub mod Indication
pub mod Requests
pub mod Answers
pub mod Independence
pub mod Effects
