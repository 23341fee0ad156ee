pub mod Below
pub mod Addresses
pub mod FieldTables
pub mod WordTables
pub mod ReservedWords
