pub mod Plans
pub mod Previews
pub mod Ring
pub mod Watching
pub use Rattle.wc_view_watch.specs.Plans.{IsFirstUnknown, begins_with, differ, end_text, is_unknown, is_written, last_values, line_with_values, names_in, numbers_of, row_text, scans_of_row, scans_so_far, value_text, values_in, values_line, values_of, watch_observed, watch_plan, with_commas, written_now}
pub use Rattle.wc_view_watch.specs.Ring.{RingState}
pub use Rattle.wc_view_watch.specs.Watching.{AreLookedUp, FitLogic, HasRefused, HasSeen, KeepsLast, KeepsValues, RunsLogic, kept_values}
