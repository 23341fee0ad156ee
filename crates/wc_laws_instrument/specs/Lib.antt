pub mod Logs
pub mod Changes
pub mod Preludes
