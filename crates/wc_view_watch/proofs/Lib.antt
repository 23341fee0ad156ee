pub mod LookUps
pub mod Observed
pub mod RingSteps
pub mod Rows
pub mod ValueTexts
