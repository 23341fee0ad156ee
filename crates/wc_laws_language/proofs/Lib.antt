pub mod Tests
pub mod FramePlaces
pub mod Places
pub mod Entities
pub mod StandardCalls
pub mod Applying
pub mod Steps
pub mod CallSteps
pub mod Bodies
pub mod Programs
pub mod Texts
pub mod Spelled
pub mod Runs
pub mod Carrying
pub mod Wrapping
pub mod Jumping
pub mod Counting
pub mod Delaying
pub mod Refusing
pub mod Longest
pub mod TracesArePaths
pub mod UnitBounds
pub mod KeptPlaces
pub mod Pulsing
pub mod OneBound
pub mod Fields
pub mod Fitting
pub mod Going
mod BodiesBefore
mod Merging
mod Declared
mod Unchanged
mod MeaningsBefore
mod PathsBefore
mod RulesBefore
mod Spelling
mod WorstPaths
