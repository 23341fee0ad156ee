pub mod Broken
pub mod TomlTable
pub mod Verdict
pub mod Kept
pub mod KeyFaults
