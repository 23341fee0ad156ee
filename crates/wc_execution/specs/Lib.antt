pub mod Lines
pub mod Courses
pub mod Logic
pub use Rattle.wc_execution.specs.Lines.{AreBefore, AreSlots, IsClosable, IsClosed, IsStorable, IsWritable, held, here_at, loaded, negated_if, no_calls, passed, slots_of, state_of, stored, written}
pub use Rattle.wc_execution.specs.Courses.{IsLeft, IsOwn, IsRan, IsShort, course_view, is_plain, left_by, line_at}
