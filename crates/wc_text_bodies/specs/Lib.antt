pub mod Several
pub mod Views
