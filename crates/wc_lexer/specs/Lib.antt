pub mod Views
pub mod Numbers
pub mod Spans
