pub mod CallLaws
pub mod HistoryLaws
pub mod Typing
pub mod CheckLaws
pub mod DeclarationLaws
pub mod FirstNumbers
pub mod Laws
pub mod SoundnessLaws
pub mod SpelledBefore
pub mod TextLaws
pub mod TextsBefore
pub use Rattle.wc_laws_language.specs.CallLaws.{IsCallPathBefore, called_before}
pub use Rattle.wc_laws_language.specs.HistoryLaws.{ACallAddsToTheHistory, HasHistory, HistoriesGoOnOverAChange, Holds, KeepsInstance, of_block}
pub use Rattle.wc_laws_language.specs.Typing.{FitsScope, HoldsDirect, HoldsTheSameFields, SameSlots, content_at, slot_at, slot_of, slot_of_kind}
pub use Rattle.wc_laws_language.specs.CheckLaws.{AreUnitLinesBefore, AreWorstLinesBefore, IsPathPartBefore, IsUnitReportBefore, IsWorstFromBefore, IsWorstPathBefore}
pub use Rattle.wc_laws_language.specs.DeclarationLaws.{AnOldTextStaysAsItIs, AreMerged, DeclarationsIgnoreDirections, ListChange, OutputsAddOnlyTheirAddresses, OutputsFailOnlyByTheirAddresses, as_input, body_output_checks, body_with, outputs_as_inputs, step_output_checks, step_with, text_output_checks, text_with, unit_with, without_outputs}
pub use Rattle.wc_laws_language.specs.FirstNumbers.{AreFirst, IsFirst}
pub use Rattle.wc_laws_language.specs.Laws.{EachLoadedUnitHasABound, HasABound}
pub use Rattle.wc_laws_language.specs.SoundnessLaws.{Agrees, AreClean, ArrivedFits, CallsEndWell, Clean, EndsWell, GoesWell, InsideMode, IsAmong, IsSimple, LeadsTo, LoadedTextIsNeverStuck, ModeFits, NestsSimply, NoRunIsEverStuck, SpelledTextNestsSimply, UnitsNestSimply, VerifiedTextIsNeverStuck, is_simple, step_jumps_to, step_returns}
pub use Rattle.wc_laws_language.specs.TextLaws.{GivesNothingOut, StepGivesNothingOut, UnitsGiveNothingOut}
pub use Rattle.wc_laws_language.specs.TextsBefore.{FirstTooLongBefore, IsBlockPathBefore, IsCostFaultBefore, IsLongestBefore, IsPathBefore, IsPathFromBefore, MayStepBefore, block_called_before, body_means_before, body_rules_before, call_effect_before, inside_rules_before, line_effect_before, line_rules_before, means_before, program_means_before, rules_at_position_before, scan_of_before, step_effect_before, step_rules_before}
