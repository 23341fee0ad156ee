mod CallLists
mod ShortLines
pub mod WalkSteps
pub mod Openings
pub mod LineLists
mod FaultIf
