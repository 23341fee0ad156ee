pub mod Stopped
mod ListedTokens
