mod Units
mod FirstTokens
mod ReadingSteps
pub mod ReadTexts
