pub mod FirstProgram
