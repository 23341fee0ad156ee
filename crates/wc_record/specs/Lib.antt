pub mod Cutting
pub mod Views
pub mod Reading
pub mod Left
pub mod Steps
pub mod Recorders
pub mod Reported
pub use Rattle.wc_record.specs.Views.{IsDataInRange, head_data_view, head_view}
pub use Rattle.wc_record.specs.Reading.{HasRecords, records_of}
pub use Rattle.wc_record.specs.Left.{Answer, HasCause, HasLeft, IsAfterRecords, IsLeft, Takes, end_after, ended, last_ms, log_following, moment_or_zero, nothing_left, row_bytes, rows_read}
pub use Rattle.wc_record.specs.Steps.{GivesRecord}
pub use Rattle.wc_record.specs.Reported.{IsAmong, Reads, ReadsTo, all_records, current_record, fields_reported, record_at, records_read}
