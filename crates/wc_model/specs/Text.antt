-- The text: from bytes to tokens, from tokens to the tree.
pub mod Characters
pub mod Digits
pub mod WholeNumbers
pub mod Durations
pub mod Shapes
pub mod Lexemes
pub mod Blanks
pub mod Tokens
pub mod TokenLaws
pub mod Marks
pub mod Languages
pub mod Keywords
pub mod Grammar
pub mod Positions
pub mod Limits
pub mod ReadingFaults
pub mod Reading
