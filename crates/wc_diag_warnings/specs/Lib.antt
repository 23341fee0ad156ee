pub mod Events
pub mod Uses
pub mod Paths
pub mod Warnings
pub mod Seen
pub mod Laws
pub use Rattle.wc_diag_warnings.specs.Events.{Begins, Calls, Action, BodyEvent, Labels, argument_events, at, events_of}
pub use Rattle.wc_diag_warnings.specs.Uses.{action_asks, action_stores, is_called, is_given, is_read, is_written, reads_valid, reads_weight, stores, used_in}
pub use Rattle.wc_diag_warnings.specs.Paths.{AreFrom, IsFollowed, Passed, Source, Start, Store, comes_by_jump, comes_down, action_jumps, action_leaves, edges, is_from, is_on, is_reached, leads, marks, passed, starts}
pub use Rattle.wc_diag_warnings.specs.Warnings.{WarningAt, address_of, begins_stretch, body_warnings, warning_at, declared_warnings, declared_number, action_begins, event_warnings, event_number, instance_number, is_above_reached, is_stored_again, is_timer, is_unasked, number_at, outputs_in, unit_warnings, use_number, variable_number}
pub use Rattle.wc_diag_warnings.specs.Seen.{action_view, event_view, events_view, uses_view, variable_view, warnings_view}
pub use Rattle.wc_diag_warnings.specs.Laws.{EachDeclaredWarningIsSo, EachEventWarningIsSo, EdgesAreThere, IsAlone, IsInstance, IsNoted, IsPlain, IsWarned, IsWay, at_start, by_jump, from_mark, input_not_read, no_time, not_called, not_reached, of_program, of_var, only_read, only_written, onward, output_not_written, stored_again, unasked, unused}
