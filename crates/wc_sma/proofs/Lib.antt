pub mod Digits
pub mod Stepping
pub mod Chunks
pub mod AnswerLetters
