pub mod Cuts
pub mod KeptRows
pub mod CutAgain
pub mod TooMany
pub use Rattle.wc_cut.specs.Cuts.{data_text, heading_text, line_of, lines_of, row_text, rows_text, cut_log, cut_observed, cut_plan, cut_written, end_written, opening_text, row_written, time_of}
pub use Rattle.wc_cut.specs.KeptRows.{HasCounted, HasSeenBy, IsBefore, capacity_left, kept_rows}
pub use Rattle.wc_cut.specs.CutAgain.{GoesOnFromTheCut, IsCutAgain, IsLogAgain, IsReadBack, data_fields, numbered, opening_rows, prelude_rows, row_at_time, row_fields, rows_of_cut}
pub use Rattle.wc_cut.specs.TooMany.{IsReported, ReportsTooMany, ending_reported}
