pub mod Programs
pub mod CallOutputs
pub mod Refused
pub mod Faulty
pub mod PathScopes
pub mod Timers
pub mod Showing
pub mod Spelled
pub mod Texts
pub mod Writing
pub use Rattle.wc_examples_language.specs.Faulty.{after_eight_openings, after_load, after_short_opening, bare_load_before, blocks, empty_opening, following_opening, inner_opening, load_lines, load_true, loaded, loads, opened, opening_line, program_of_loads, short_opening}
pub use Rattle.wc_examples_language.specs.Texts.{block_b, body_then_end, end_of, ident, mark, program_of}
