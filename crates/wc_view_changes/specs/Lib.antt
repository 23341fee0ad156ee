pub mod ChangeReport
pub mod Shown
pub mod Sides
pub use Rattle.wc_view_changes.specs.ChangeReport.{Found, found_in, found_of, has_line, initial_of, is_kept, line_alongside, line_text, lines_alongside, pass_text, path_text, program_of, unit_of_type}
pub use Rattle.wc_view_changes.specs.Shown.{Declared, Instance, Plain, declared_in, declared_of, has_shape, inside, seen, shape_view, shown_by, shown_from, shown_in}
pub use Rattle.wc_view_changes.specs.Sides.{IsAt, IsSide, found_numbered, kept_between, line_between, line_numbered, lines_between, numbered_side, side_after, side_found, side_initial, side_lead, unit_numbered, variable_lines}
