pub mod Allowed
pub mod Listed
pub mod ReadingSpans
pub mod Stopping
pub mod Words
