pub mod About
pub mod Opening
pub mod Calls
pub mod Programs
pub mod Representation
pub mod Preludes
pub mod LineCalls
pub use Rattle.wc_scale.specs.About.{ReportsNoUnit}
pub use Rattle.wc_scale.specs.Opening.{Begins, IsBare, IsRefusedAt, ReportsFault}
pub use Rattle.wc_scale.specs.Calls.{RefusesByte, RefusesInputs, RefusesOpen, RefusesSample, RefusesScan, ReportsEngraved, ReportsReading, ShowsNoPlate, ShowsNothing, TakesByte, TakesInputs, TakesOpen, TakesSample, TakesScan}
pub use Rattle.wc_scale.specs.Programs.{IsChangedTo, IsStarted, RefusesChange, RefusesLoad, TakesChange, TakesLoad}
pub use Rattle.wc_scale.specs.Representation.{HasNoProgram, IsClosed, IsEmptied, IsKept, IsOpenAt, RefusesValue, ReportsValue, Represents, machine_in}
pub use Rattle.wc_scale.specs.Preludes.{ReportsDigest, ShowsNoDigest, HasZerosBesides, HoldsNothing, IsReportedState, ReportsPrelude}
pub use Rattle.wc_scale.specs.LineCalls.{AnswersWithoutTheCustomer, AreMade, Byte, Call, Change, CustomersCallsHaveNoPart, EachCallIsAStep, HasLegalState, Inputs, IsStep, LegalCallsDecide, Load, Look, Open, Sample, Scan, after_call, after_calls, answer_to_call, answers_to_calls, is_customers, legal_calls, legal_part}
