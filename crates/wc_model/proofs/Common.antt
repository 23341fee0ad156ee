-- The names of std that the proofs cite, passed on from one place.
pub use Rattle.std.proofs.Common.{Bool, Bor, Equal, Err, Fits, FitsSigned, Global, Greater, IsSome, IsUtf8, Less, List, None, Ok, Option, Ordering, Result, Some, String, Vec, [], add-one, add-suc, add-zero, ap, append-nil, append_assoc, arith, bit_or, cond, count_by, drop, drop-cons, false, get_or, inl, inr, is_eq, le_of_eq, length, length-append, lit<, lit≤, ltb, map, max, min, nat_cmp, nat_eq, not, of_z, option_map, pos, refl, replicate, rules, set, string_bytes, subst, subst₂, suc, sum, sym, take, tests, to_z, true, true≢false, w32, w64, zero, zero-add, ℕ, ℤ, ⊎_elim, ◌%◌, ◌&&◌, ◌*◌, ◌++◌, ◌+◌, ◌-◌, ◌/◌, ◌<◌, ◌==◌, ◌^◌, ◌||◌, ◌∙◌, ◌∷◌, ◌≡◌, ◌≢◌, ◌≤◌, ◌⊎◌}
pub use Rattle.std.specs.Prelude.{IfErr, IfNone, IfOk, IfSome, IsOk, IsOkUnless, MatchOption, MatchResult, OnOk, codes, decimal, eqb, filter, find, if◌then◌else◌, is_ok, is_some, nat_le, nat_lt, option_and_then, pred, reverse, slice_get, slice_index, slice_index_or, slice_range, slice_set, take_while, unsigned_abs, unwrap_or, ⊤, ◌-ℤ◌, ◌↔◌}
pub use Rattle.std.proofs.KnownBytes.{Appends-kept, Appends-nil, Appends-trans, Consumes-kept, Consumes-nil, Consumes-trans, Keeps-refl, Keeps-trans}
pub use Rattle.std.proofs.Math.Bool.{and-false, and-true, and_self, or-false}
pub use Rattle.std.proofs.Math.Facts.{to_z-neg}
pub use Rattle.std.proofs.Math.IntN.{suc_ℤ-*ℤ}
pub use Rattle.std.proofs.Math.ListN.{drop_of_length-le}
pub use Rattle.std.proofs.Math.Nat.{div-add-mod, div-div-eq-div-mul, div-eq_of_lt, div-le_self, eq-or-lt_of_le, min-le_right, mul-le-mul, mul-le-mul_left, mul-le-mul_right, mul_comm, one-le-pow, pow-suc, zero-div}
pub use Rattle.std.proofs.Math.Path.{fun_ext}
pub use Rattle.std.proofs.Math.Pow.{pow_mono}
pub use Rattle.std.proofs.Math.Seq.{drop-append-add, drop-append_seam, drop-length, drop-nil, set-append_seam, take-add, take-append-add, take-append_seam, take-length, take-suc}
pub use Rattle.std.proofs.lemmas.Bool.{and_from, and_left, and_parts, and_right, both_ways, cases_Bool, cases_eq, cases_lt, cases_order, cond-false, cond-true, eq-eqb, eqb-false, eqb-true, false_from_ne_true, false≢true, le-leb, le-ltb, leb-false, leb-true, lt-leb, lt-ltb, ltb-false, ltb-true, ne_eqb, not-false, not-true, not_from_false, or_cases, or_from, or_left, or_parts, or_right}
pub use Rattle.std.proofs.lemmas.Bool.Decides.{leb_tells, nat_tests}
pub use Rattle.std.proofs.lemmas.Fmt.{IsAscii-decimal, IsAscii-signed, decimal_digit, decimal_is_IsNumeral, decimal_nonempty, decimal_step, length-decimal-le, parse-decimal, parse-signed_decimal}
pub use Rattle.std.proofs.lemmas.Grind.{common_steps, flat_map-append, reverse_onto}
pub use Rattle.std.proofs.lemmas.Int.{SFits-int_wrap, by_lt_z, int_max_is, int_min_is, ints, quot-rem, to_z-of_z, to_z_pos, unsigned_abs-mul, wrapping_add_is, wrapping_sub_is}
pub use Rattle.std.proofs.lemmas.Int.Digits.{digits_value_is, number_lt}
pub use Rattle.std.proofs.lemmas.Iterator.Adapters.{position_from-zero}
pub use Rattle.std.proofs.lemmas.Iterator.Consumers.{map_from_collect}
pub use Rattle.std.proofs.lemmas.Iterator.Splits.{YieldsList-from_slice_split}
pub use Rattle.std.proofs.lemmas.List.{drop-append-le, drop-drop, drop-map, drop-replicate, drop-set, drop_all, drop_more, get_or-append_right, get_or-drop, get_or-replicate, get_or-set_other, get_or-set_same, get_or_append_left, get_or_default, length-drop, length-map, length-replicate, length-reverse, length-set, length-take, length-take-le, length_push, map-append, map-set, map_more, map_push, replicate_more, reverse-append, set-get_or, take-append-drop, take-append-le, take-take, take_all, take_at, take_min, take_more, take_rest}
pub use Rattle.std.proofs.lemmas.List.Edits.{map_over_more}
pub use Rattle.std.proofs.lemmas.List.Elements.{All-cons, All-nil, All-pop, All-push, filter-append, filter_agree, filter_map-append}
pub use Rattle.std.proofs.lemmas.List.Filters.{length-filter_both}
pub use Rattle.std.proofs.lemmas.List.Folds.{Any-from_list_any, find-append, find_at, flat_map-map, length-prefix_len, list_all-append, list_all-map, list_any-append, list_any-from_Any}
pub use Rattle.std.proofs.lemmas.List.Kept.{AllPairs-cons}
pub use Rattle.std.proofs.lemmas.List.Recursion.{is_position_or_len}
pub use Rattle.std.proofs.lemmas.List.Sorted.{IsPartitionPoint-from_clause, IsPartitionedBy-leb, IsPartitionedBy-ltb}
pub use Rattle.std.proofs.lemmas.List.Splits.{slice_split_first}
pub use Rattle.std.proofs.lemmas.List.Sums.{count_by-le-length, fold-append, position_or_len_is, prefix_len-le-length, sum_by-append, sum_by-cons, take_while-cons}
pub use Rattle.std.proofs.lemmas.Map.Steps.{list_any_congr}
pub use Rattle.std.proofs.lemmas.Map.Text.{is_eq-slice_cmp}
pub use Rattle.std.proofs.lemmas.Nat.{div_below, le-div, one_shl, pow-add, pow_pos, shr-shr}
pub use Rattle.std.proofs.lemmas.Nat.Bits.{bit_at-lt, bit_at-pow_other, bit_at-pow_same, bit_at_ones, bit_at_or, bit_at_xor}
pub use Rattle.std.proofs.lemmas.Option.{IfSome_then, get_or_from_slice_get, none-some, same_Some, slice_get-get_or, slice_get-map, slice_get_cases, slice_get_past, slice_get_read, slice_get_within}
pub use Rattle.std.proofs.lemmas.Result.{IfOk-weaker, on_ok_weaker}
pub use Rattle.std.proofs.lemmas.Simd.{map-map}
pub use Rattle.std.proofs.lemmas.Slice.{drop-append-drop, drop-put_mid}
pub use Rattle.std.proofs.lemmas.Slice.Eq.{bytes_eq-Decides}
pub use Rattle.std.proofs.lemmas.Str.{IsAscii-append, IsCharBoundary-start, IsUtf8-append, IsUtf8-from_ascii, IsUtf8-from_is_utf8, digit_value-digit_char, digit_value_digit, is_utf8-from_IsUtf8}
pub use Rattle.std.proofs.lemmas.Str.Ascii.{IsAscii-cons, IsAscii-nil, trim_ascii_start_is}
pub use Rattle.std.proofs.lemmas.Str.Parse.{digit_from_value}
pub use Rattle.std.specs.Bool.{beq, then_some}
pub use Rattle.std.specs.Char.{digit_char, digit_value, is_ascii_alphabetic, is_ascii_alphanumeric, is_ascii_digit, is_ascii_whitespace, is_digit, to_ascii_lowercase}
pub use Rattle.std.specs.Cmp.{booleans_Decides, decided, signed_Decides}
pub use Rattle.std.specs.Cmp.Derive.{both_true}
pub use Rattle.std.specs.Cmp.Lexicographic.{bytes_decides, nat_list_eq_equiv, slice_cmp}
pub use Rattle.std.specs.Fmt.{signed_decimal}
pub use Rattle.std.specs.Int.{FitsUnsignedBits, bit_at, from_be_bytes, from_le_bytes, int_max, int_min, int_wrapping_div, is_in_range, is_negative}
pub use Rattle.std.specs.Int.Digits.{AllBelowBase, number_from_digits, number_from_digits_after}
pub use Rattle.std.specs.Io.KnownBytes.{Appends, Consumes, IsAtEnd, Keeps}
pub use Rattle.std.specs.List.{AllByRecursion, after_first, before_first, concat, cons_option, filter_map, flat_map, fold, last_or, list_all, list_any, onto_first, position_from, position_or_len, prefix_len, starts_with, suffix_len}
pub use Rattle.std.specs.List.Sorted.{IsNonDecreasingBy}
pub use Rattle.std.specs.Map.{keys_of, lookup, set_value}
pub use Rattle.std.specs.Option.{SomeIff, ok_or, option_copied, option_map_or, option_or, option_to_list}
pub use Rattle.std.specs.Ordering.{int_eq, match_ordering}
pub use Rattle.std.specs.Result.{IsErr, IsErrAnd, OkIff, result_unwrap_or}
pub use Rattle.std.specs.Slice.{IsGetRangeResult}
pub use Rattle.std.specs.Str.{IsAscii, IsAsciiWhitespaceBelow, IsAsciiWhitespaceFrom, IsTrimAscii, bytes_eq, is_utf8}
pub use Rattle.std.specs.Str.Parse.{AllDigits, digits_value, digits_value_after}
pub use Rattle.std.specs.Vec.{vec_len, with_item}
