pub mod NumberOperators
pub mod NumberBlocks
pub mod FlatMeaning
pub mod Lowered
pub mod Contents
pub mod Examples
pub mod Bounds
pub mod FlatPaths
pub mod Laws
pub mod Seen
pub mod FlatSeen
pub mod SeenLaws
pub use Rattle.wc_text_flat.specs.NumberOperators.{acts, bit_of, apply_number, negated_number, given}
pub use Rattle.wc_text_flat.specs.NumberBlocks.{block_called, field_numbers, given_bit, given_natural, is_slot, natural_of, number_from, with_numbers}
pub use Rattle.wc_text_flat.specs.FlatMeaning.{Calls, Ended, Flow, Here, LineResult, Ran, Skips, State, applies, body_runs, calls_below, closes_on, counted, ended, followed, goes_on, is_named, kind_at, line_runs, loads, may_hold, number_at, number_held, opens, overwrites, program_runs, returns, runs, stores, turns, unit_runs, with_all, with_result, writes}
pub use Rattle.wc_text_flat.specs.Lowered.{AreArguments, AreEach, AreLowered, AreLoweredAfter, AreOutputs, At, IsArgument, IsBodyOf, IsCallLowered, IsLowered, IsOpening, IsOperand, IsOutput, IsPlaceOf, IsStepLowered, IsUnitBody, Number, Operand, apply_line, argument_line, first_of_all, first_place, flat_length, lines_ahead, load_line, places_before, short_line, size_of, step_length}
pub use Rattle.wc_text_flat.specs.Contents.{AreContents, frame_of_reversed, frame_of_text, image_numbers, with_image_numbers}
pub use Rattle.wc_text_flat.specs.Examples.{place}
pub use Rattle.wc_text_flat.specs.Bounds.{IsDepthRight, IsWithin, depth_after, depth_at, frame_sizes}
pub use Rattle.wc_text_flat.specs.FlatPaths.{Worst, from_line, line_worst, no_more, one_more, some_more, sources_of, step_sources, turned, worse, worst_from, worst_of}
pub use Rattle.wc_text_flat.specs.Laws.{AreBoundsBelow, AreHeld, CallsAreRuns, EndedBodiesAreOver, FirstNumbersAreContents, FlatCodeHasTheWorstPath, FlatCodeIsShort, FlatCodeMeansTheText, FlatCodeScansTheText, HeldNumbersStayHeld, LoweredCodeKeepsWithin, LoweredCodeNests, OutputsAreNumbers, RunsAlike, SkippedLinesAreDropped}
pub use Rattle.wc_text_flat.specs.Seen.{seen_of_scan}
pub use Rattle.wc_text_flat.specs.FlatSeen.{AreSeenAs, first_source, flat_seen, flat_seen_below, flat_seen_of_unit, number_stored, number_written, seen_moved}
pub use Rattle.wc_text_flat.specs.SeenLaws.{FlatCodeIsSeenAsTheText, HasItems, sources_of_text}
