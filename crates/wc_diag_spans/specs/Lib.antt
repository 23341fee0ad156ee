pub mod Lines
pub mod OffendingTokens
pub mod Rows
pub mod Finds
pub use Rattle.wc_diag_spans.specs.Lines.{column_at, known_line, line_of_number, line_of_part, read_as}
pub use Rattle.wc_diag_spans.specs.OffendingTokens.{HasLaterSpan, HasStop, IsKept, IsLaterOperand, IsOffendingBy, IsStop, IsStoppedBy, MeansSlice, MeansStop}
pub use Rattle.wc_diag_spans.specs.Rows.{MeansField, after_comma, cut_field, glued, joined, shown_field, shown_row}
pub use Rattle.wc_diag_spans.specs.Finds.{IsCutTo, IsWithin}
