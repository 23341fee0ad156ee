pub mod Held
pub mod Rows
pub mod Columns
pub mod Followed
pub mod TimeLines
pub use Rattle.wc_view_columns.specs.Held.{IsStateOf, held_at, span_of}
pub use Rattle.wc_view_columns.specs.Rows.{AreBoth, AreFrom, AreJoined, AreTogether, Row, column_count, column_number, counted, left_by, nothing}
pub use Rattle.wc_view_columns.specs.Followed.{AreAnswered, AreCounted, HasFollowed, IsMarked, after_answer, is_refusal, made_by, marked_by}
pub use Rattle.wc_view_columns.specs.TimeLines.{AreColumns, IsLeft, IsStart, IsTimeLineOf, row_at}
