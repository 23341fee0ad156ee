pub mod Locations
pub mod Snippets
pub mod Explanations
pub mod Formats
pub mod Paged
pub mod Warned
pub use Rattle.wc_diag_messages.specs.Locations.{column_text, counted_text, first_column, line_text, place_text, row_text, section_text}
pub use Rattle.wc_diag_messages.specs.Explanations.{IsKnown, IsPrintable, QuotesAndSays, left_out_text, numbered, quoted_text}
pub use Rattle.wc_diag_messages.specs.Formats.{helped_text, number_if_any, number_member, object_tokens, position_members, position_text, severity_members, short_text, text_if_any, text_member, word_members}
pub use Rattle.wc_diag_messages.specs.Warned.{KnowsWarning, left_out_tokens, named_text}
