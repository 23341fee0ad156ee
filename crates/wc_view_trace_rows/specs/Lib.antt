pub mod Columns
pub mod Items
pub mod Legends
pub mod Levels
pub mod Notes
pub mod Named
pub mod Rows
pub mod Scans
pub use Rattle.wc_view_trace_rows.specs.Columns.{IsSafe, ShownLinesAreSafe, first_columns, fitted, gap, line_shown, prefix, result_column, with_cell, written_column, between_words, is_control, shown, shown_byte, shown_bytes, shown_first, single_spaces}
pub use Rattle.wc_view_trace_rows.specs.Items.{AreLastCalls, IsNumberAt}
pub use Rattle.wc_view_trace_rows.specs.Legends.{IsLegendOf, line_of, line_starts, name_of}
pub use Rattle.wc_view_trace_rows.specs.Levels.{levels_after, levels_view}
pub use Rattle.wc_view_trace_rows.specs.Named.{note_named, text_named}
pub use Rattle.wc_view_trace_rows.specs.Notes.{AreWithin}
pub use Rattle.wc_view_trace_rows.specs.Rows.{Output, is_part, is_true, literal, number_shown, outputs_of, result_cell, row_of, written_cell, written_text}
pub use Rattle.wc_view_trace_rows.specs.Scans.{AreItems, AreItemsFrom, AreRows, IsItem, PutsScan, heading, none_chosen, steps_line}
