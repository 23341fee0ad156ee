pub mod NamesSoFar
pub mod Validation
pub mod Typing
pub mod RowsSoFar
pub mod DeclaredSoFar
pub mod LineViews
pub mod UnitsSoFar
pub mod SpelledSoFar
