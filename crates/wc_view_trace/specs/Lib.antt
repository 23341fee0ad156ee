pub mod Members
pub mod Traces
pub mod Items
pub mod Scans
pub mod Tracers
