pub mod Answering
pub mod Opened
pub mod ReadValues
pub mod RefusedScans
pub mod Refusing
pub mod LineCalls
pub mod LineSteps
