pub mod LoadedTexts
pub mod LoadedInside
pub mod Faultless
pub mod PathLengths
pub mod Lowering
pub mod Lowerable
pub use Rattle.wc_cost.specs.LoadedTexts.{IsCosted, AreWorstAt, LoadedText}
pub use Rattle.wc_cost.specs.LoadedInside.{AreLines, bounds_of, codes_of}
pub use Rattle.wc_cost.specs.Faultless.{AreLoaded, IsFaultless, IsMeasured, IsOverrun, IsSpelled, LoadsUnits, MeasuresUnit}
pub use Rattle.wc_cost.specs.PathLengths.{ArePathLengths, AreSmall, steps_of}
pub use Rattle.wc_cost.specs.Lowering.{Adds, AddsArguments, AddsLine, AddsLines, AddsOutputs, AddsPassed, FlatLines, HoldsLabels, IsFlat, IsKeptFlat, IsLineLowered, IsPassed, KeepsLabel, Represents, line_sources, no_lines, operand_view, put_line, same_direction}
pub use Rattle.wc_cost.specs.Lowerable.{ArePassable, IsAhead, IsBitWhere, IsInsideLowerable, IsLineLowerable, IsLowerable, IsNear, IsNegatable, IsPassable, IsReadable, IsStepLowerable, IsWritable, Nowhere}
