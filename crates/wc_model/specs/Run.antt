-- What is read and written: rows, image, job, devices.
pub mod Devices
pub mod Fuses
pub mod Rows
pub mod ProcessImage
pub mod Hex
pub mod Log
pub mod JobSections
pub mod Writing
