mod KeywordMeanings
mod LaterTokens
pub mod Outcomes
