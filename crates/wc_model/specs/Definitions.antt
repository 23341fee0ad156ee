-- The definitions that other crates cite, passed on from one place.
pub use Rattle.wc_model.specs.Text.Blanks.{Blank, comment_closing, comment_opening, from_bracket, starts_with_bracket}
pub use Rattle.wc_model.specs.Text.Characters.{begins, is_address_character, is_empty, is_hash, is_identifier_character, is_line_feed, is_minus, is_number_character, is_percent, is_plus, is_point, is_sign, is_star, is_underscore, starts_identifier}
pub use Rattle.wc_model.specs.Text.Digits.{are_digits, digits_of, has_single_underscores, value_of_digits}
pub use Rattle.wc_model.specs.Text.Durations.{Part, are_duration_parts, billionths, duration_of, duration_parts, milliseconds_of, onto_parts, parts_of, unit_named, without_separator}
pub use Rattle.wc_model.specs.Text.Grammar.{Group, HasContent, InBody, InParentheses, IsLiteral, IsNameOf, IsOn, IsOperator, IsOperatorOf, IsPrefix, IsProgramLast, IsTransfer, MayOccur, Setting, Spells, argument, bracket, bracketed, call_list, declaration, declared_names, head, identifier, initial_value, instruction, label_in, line_ends, lines, opening, operand, operands_of, section_of, sections, sign_of, symbol, unit_of, units}
pub use Rattle.wc_model.specs.Text.Keywords.{block_word, call_word, end_var, end_word, jump_word, kind_word, load_word, not_word, operator_word, return_word, section_word, store_word, truth_word, unit_word}
pub use Rattle.wc_model.specs.Text.Languages.{Language, Sequence, each, empty, nothing, one, optional, prefix_of, separated, skipping, started, unfinished, ◌given◌, ◌or◌, ◌then◌}
pub use Rattle.wc_model.specs.Text.Lexemes.{Addressed, IsLongestLexeme, Lexeme, Marked, Run, Sign, Signed, Typed, Unsigned, is_literal_value, is_run, is_unsigned_run, may_occur_before}
pub use Rattle.wc_model.specs.Text.Limits.{IsBodyWithinLimits, IsWithinLimits, depth, line_count, lines_before, lines_opened, most_depth, most_lines, most_units}
pub use Rattle.wc_model.specs.Text.Marks.{Ampersand, AmpersandN, Assign, ClosingBracket, Colon, Comma, Duration, Identifier, IsNamed, IsSymbol, IsWord, LineEnd, Mark, OpeningBracket, Point, Semicolon, Symbol, Truth, Whole, address_in, is_line_end, is_line_end_symbol, name_in}
pub use Rattle.wc_model.specs.Text.Positions.{Opening, Position, StopsInParentheses, StopsInUnit, at_instruction, at_line, cut_short, cut_short_inside, opening_cut_short, openings_of, part_of_line, setting_in}
pub use Rattle.wc_model.specs.Text.Reading.{IsMisread, IsRead, last_line, mark_of_token, symbol_of}
pub use Rattle.wc_model.specs.Text.ReadingFaults.{BeginsInstruction, BeginsTransferOrLabel, BeginsUnit, ColonFollows, EmptyParentheses, IsFaultFree, IsFirstReadingFault, IsInnermost, IsRaised, KeepsLimits, NotAllowedInParentheses, NotOneProgramLast, ParenthesisNotPaired, RaisedAtEnd, RaisedAtToken, ReadingFault, TooDeep, TooMany, UnexpectedToken, UnitNotClosed, number_of, rank_of}
pub use Rattle.wc_model.specs.Text.Shapes.{Shape, duration_shape, identifier_shape, literal_shape, mark_of, number_shape, shape_of, truth_shape, typed_shape}
pub use Rattle.wc_model.specs.Text.TokenLaws.{CutHasNoFault, CutIsUnique, CutOrFault, FirstFaultIsUnique, IsSliceOf, LongTextIsRefused, TokensAreInOrder, TokensAreSlices}
pub use Rattle.wc_model.specs.Text.Tokens.{AtEnd, Cuts, FaultAt, Faulty, IsCut, IsFirstTokenFault, Nothing, Represents, Skipped, Taken, Token, TooLong, line_after, most_bytes, token_after}
pub use Rattle.wc_model.specs.Text.WholeNumbers.{base_of, unsigned_of, whole_number_of, within_32_bits, written_value}
pub use Rattle.wc_model.specs.Language.BlockCalls.{ctu_called, ctu_contents, field_at, r_trig_called, r_trig_contents, rs_called, rs_contents, sr_called, sr_contents, standard_called, tof_called, tof_contents, ton_called, ton_contents, tp_called, tp_contents, with_dint, with_fields, with_moment, with_phase, with_time, with_truth}
pub use Rattle.wc_model.specs.Language.Blocks.{CtuFields, RTrigFields, RsFields, SrFields, TofFields, TonFields, TpFields, ctu_count, ctu_step, preset, r_trig_step, rs_step, sr_step, tof_falling, tof_held, tof_released, tof_step, ton_idle, ton_running, ton_step, tp_from, tp_held, tp_idle, tp_over, tp_pulsing, tp_started, tp_step}
pub use Rattle.wc_model.specs.Language.BodyRules.{actual_checks, apply_checks, argument_checks, body_rules, call_checks, closing_checks, condition_checks, divides, divisor_checks, formal_named, input_named, inside_rules, is_ahead, is_bit_literal, is_bool, is_divisor, is_instance, is_no_instance, is_of, is_readable, is_writable, label_rules, line_rules, load_checks, members_called, opening_checks, opening_operand_checks, output_named, passes, reading_checks, result_checks, rules_at_position, step_rules, store_checks, suits_input, suits_output, suits_result, suits_target, takes, text_body_checks, truth_checks, writing_checks}
pub use Rattle.wc_model.specs.Language.Carried.{Lead, ToField, ToPlace, carried, direct_lead, field_lead, keeps, lead_by, lead_from, lead_of, path_lead, plain_lead, same_block, same_lead}
pub use Rattle.wc_model.specs.Language.CarriedPlaces.{carried_number, carried_within, frame_of_reversed, frame_of_text, number_if_kept, number_if_kept_within}
pub use Rattle.wc_model.specs.Language.Checks.{Check, Refusal, asks, first_broken, positions_after, positions_of}
pub use Rattle.wc_model.specs.Language.DeclarationRules.{and_more, body_name_checks, capacity_checks, declaration_checks, has_capacity, initial_checks, is_among, is_new, is_own, is_usable_type, label_checks, may_occur, name_of_word, names_are_new, names_block_of, names_declared, not_reserved, operand_checks, places_of_type, reserved_words, step_checks, suits_type, taken_at_first, taken_by, term_checks, text_declaration_checks, type_checks, type_words, unit_checks, unit_declaration_checks}
pub use Rattle.wc_model.specs.Language.Declarations.{Block, Elementary, Member, Standard, Variable, VariableType, as_member, block_named, block_type, declared_by, elementary_types, is_block, member_named, members_of, named_in, same_name, standard_blocks, standard_members, standard_type, type_named, variable_named, variables_of}
pub use Rattle.wc_model.specs.Language.DirectVariables.{DirectVariable, InputBit, OutputBit, OutputWord, StatusBit, Weight, direct_variables, is_output, kind_of_direct, numbers_below, numeral, spellings, variable_at}
pub use Rattle.wc_model.specs.Language.Faults.{FirstTooLong, IsCostFault, IsShortEnough, IsTooLong, MOST_STEPS, body_fault, declaration_fault}
pub use Rattle.wc_model.specs.Language.Frames.{IsInRange, PlainVariable, bit_number, content_number, first_numbers, frame_of, location_of, number_of_path, place_number, plain_of, plain_variables, scope_of_position, scopes_of, slot_kind_of, slot_kinds}
pub use Rattle.wc_model.specs.Language.Histories.{CtuCall, FitsCtu, FitsRTrig, FitsRs, FitsSr, FitsTof, FitsTofFalling, FitsTofHeld, FitsTofNever, FitsTofReleased, FitsTon, FitsTonIdle, FitsTonRun, FitsTp, FitsTpIdle, FitsTpOver, FitsTpPulse, FitsTpSpan, RsCall, SrCall, TimerCall, after_reset, cus, edges, fall_start, first_or, has_ended, is_reset, is_rise, latched, latched_by_set, oldest_moment, open_span, open_with, run_start, span_start, span_with, was_held, with_past}
pub use Rattle.wc_model.specs.Language.Kinds.{AloneLine, BodyLine, Known, NestedLine, PlainLine, agreed, compares, edges_in, elementary_kind, is_kind, jumps_to, kind_after, kind_after_operator, kind_after_step, kind_at, kind_following, kinds_from_above, kinds_from_jumps, kinds_from_label, known_kinds, label_of, leaves, lines_of, opening_kind, same_result, step_leaves, term_kind}
pub use Rattle.wc_model.specs.Language.Loading.{IsLoaded, IsNextLoaded, IsRefused, at_bodies, at_costs, at_declarations, at_reading, at_tokens}
pub use Rattle.wc_model.specs.Language.Meaning.{Calls, Context, Done, Effect, Fails, Goes, Mode, Outcome, Returned, Running, Seeking, Stuck, acts, after, ahead, alongside, argument_term, arriving, as_truth, assigned, assigned_input, assigned_one, at_end, body_means, body_outcome, call_effect, call_trace, called, called_type, carries, chosen, closed, continued, from_store, from_value, given, given_one, given_out, input_kind, line_effect, made, means, nested_effect, next, opened, program_means, set_where, step_effect, store_effect, stored, stored_value, takes_truth, value_of, written_to}
pub use Rattle.wc_model.specs.Language.Names.{Name, name_of}
pub use Rattle.wc_model.specs.Language.Operators.{apply, differ, negated, on_dints, on_numbers, on_truths, quotient, same_number}
pub use Rattle.wc_model.specs.Language.Paths.{Back, EndsThere, GoesOn, IsBlockPath, IsBodyPath, IsBoundOfLast, IsCallPath, IsLongest, IsNestedPath, IsPath, IsPathFrom, IsProgramBound, Joined, MayAct, MayPass, MayStep, Onward, Toward, Way, arriving_way}
pub use Rattle.wc_model.specs.Language.Reasons.{NoLabelAhead, NoSuchPlace, Reason, WrongKind}
pub use Rattle.wc_model.specs.Language.Scans.{bit_of, first_of_reversed, image_contents, initial_of, initial_of_reversed, is_bit_set, output_bits, output_words, overlaid, scan_of, steps_of, with_image, word_of}
pub use Rattle.wc_model.specs.Language.Scopes.{Entity, Scope, entity_of, is_input, is_result, kind_of, member_entity, own_entity, readable_place, type_of, within, writable_place}
pub use Rattle.wc_model.specs.Language.Store.{Content, Direct, Location, Moment, Path, Phase, Store, below, block_places, first_content, initial_store, places_declared, program_frame, same_direct, same_path, same_place, standard_fields, store_of, unit_places, value_at, variable_places, with_content, written, zero_of}
pub use Rattle.wc_model.specs.Language.Traces.{Argument, At, Called, GivenOut, Item, StandardBody, own_lines}
pub use Rattle.wc_model.specs.Language.Tree.{Address, Alone, Apply, Assignment, Call, Constant, Declaration, End, Field, Jump, Lines, Load, Negate, Nested, Plain, ProgramUnit, Return, Step, Term, Text, Word, goes_in, inputs_of, outputs_of}
pub use Rattle.wc_model.specs.Language.Validation.{Validates}
pub use Rattle.wc_model.specs.Language.Values.{IsWrapped, wrap}
pub use Rattle.wc_model.specs.Language.Views.{assignment_view, declaration_view, instruction_view, joined, label_view, line_step_view, line_view, lines_view, name_view, term_view, text_view, unit_view, word_view}
pub use Rattle.wc_model.specs.Language.WorstPaths.{AreWorstLines, ChoosesWorst, IsWorstFrom, IsWorstPath, StaysOnward}
pub use Rattle.wc_model.specs.Instrument.Answers.{AskTare, AskWeight, Clear, Command, TakeTare, Unknown, Zero, after_command, after_requests, answer_to, answers_to, command_of}
pub use Rattle.wc_model.specs.Instrument.Effects.{EffectsOf}
pub use Rattle.wc_model.specs.Instrument.Independence.{IsFreeOfPrograms, IsFreeOfScans, indicator_rows}
pub use Rattle.wc_model.specs.Instrument.Indication.{CommandRefusal, Motion, Range, active_tare, acts_on_tare, can_be_tared, from_zero, gross, gross_intervals, has_sample, in_units, intervals_of, is_accepted_zero, is_centre_of_zero, is_near_zero, is_over, is_stable, is_tare_active, is_under, is_valid, net, net_intervals, present_counts, refused_unless, shown, spread_of, tare_counts, tare_left_by, tare_refusal, tare_value, window_of, zero_point, zero_refusal}
pub use Rattle.wc_model.specs.Instrument.PlateTable.{Table, KeyValues, is_between, is_count, is_interval, line_unit, plate_from, plate_of, plate_of_written, rules_after_unit, unless_broken, validated, written_of}
pub use Rattle.wc_model.specs.Instrument.Plates.{IsPlate, PlateData, allowed_intervals, grams, grams_of, greatest_sample, kilograms, least_sample, tonnes}
pub use Rattle.wc_model.specs.Instrument.Requests.{IsCutAnywhere, carriage_return, completed_by, is_text, line_feed, open_at, open_request, opened_by, requests, requests_in}
pub use Rattle.wc_model.specs.Instrument.Rounding.{HasOneNearest, nearest, nearest_above_zero}
pub use Rattle.wc_model.specs.Instrument.WeighingHistories.{ClearTare, Event, History, Sample, SetTare, SetZero, last_items, last_sample, last_that, samples}
pub use Rattle.wc_model.specs.Run.Devices.{counted, failures_after_read}
pub use Rattle.wc_model.specs.Run.Hex.{byte_of_digits, bytes_of_hex, hex_of_bytes, hex_of_word, with_byte}
pub use Rattle.wc_model.specs.Run.JobSections.{Parted, Sections, is_heading, longest_job, onto_first_line, sections_of, whole_lines}
pub use Rattle.wc_model.specs.Run.Log.{LogOf, LogRefusal, Record, brings_or, change_of_data, counts_of, first_row, greatest_moment, has_fields, inputs_word_of, is_in_order, last_moment, line_chunk_of, log_after, log_of, log_with, longest_chunk, moment_of, most_rows, number_within, refused_at, row_at, row_data_of, row_from, row_of, row_of_fields, scan_of_data, where_passes, whole_of, with_row}
pub use Rattle.wc_model.specs.Run.ProcessImage.{image_after, image_with, inputs_with, number_of_bits}
pub use Rattle.wc_model.specs.Run.Rows.{Bytes, Change, Counts, Inputs, LogRow, Past, RowData, Scan, answer_of_row, answer_with, answers, answers_after, history_of, history_with, line_bytes, line_bytes_in}
pub use Rattle.wc_model.specs.Run.Writing.{HasFailedSince, TakesPrefix}
pub use Rattle.wc_model.specs.Say.Job.{AnswersJob, AnswersNext, AnswersPlate, AnswersProgram, AnswersPrograms, AnswersSections, JobAnswer, after_report, loads_program, refused_text, refuses_program, refusing, run_answer}
pub use Rattle.wc_model.specs.Say.LogFor.{AreRun, change_on, log_for, log_while, row_on}
pub use Rattle.wc_model.specs.Say.ProgramReport.{Logic, change_logic, change_to, first_logic, logic_following, program_report, program_report_last, programs, result_of, scans_of, with_logic}
pub use Rattle.wc_model.specs.Say.Report.{AnswerLine, Program, ReportLine, ScanLine, ScanResult, answer_line, answer_lines, is_answer_line, is_scan_line, line_report, line_text, lines_with, report, report_last, report_lines, report_text, scan_line, spaced_numbers, state_after, state_with}
pub use Rattle.wc_model.specs.Say.UnitReport.{AreUnitLines, IsBoundAt, IsBoundOf, IsPathPart, IsUnitReport, path_line, spaced_lines, unit_line}
