pub mod Again
pub mod DeclaredLaws
pub mod NameSets
pub mod EventLaws
pub mod EventSteps
pub mod Following
pub mod WayLaws
