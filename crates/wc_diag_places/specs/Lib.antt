pub mod Arguments
pub mod LaterSpans
pub mod Lists
pub mod OperandTokens
