pub mod Fields
pub mod Replies
pub mod Seen
pub mod Feeding
pub mod Letters
