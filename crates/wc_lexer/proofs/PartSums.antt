-- What a part and the parts after it are parsed as.
use Rattle.std.proofs.Common.{◌≡◌, ℕ, ◌+◌, ◌-◌, ◌*◌, ◌^◌, ◌<◌, ◌≤◌, ◌/◌, ◌%◌, ◌==◌, Bool, true, false, cond, not, ◌&&◌, ◌||◌, List, [], ◌∷◌, ◌++◌, length, drop, take, map, Option, Some, None, option_map, is_some, nat_lt, nat_le, true≢false, length-drop, refl, sym, ap, ◌∙◌, subst, ⊎_elim, inl, inr, ◌⊎◌, arith, pos, neg_ℤ, count_by}
use Rattle.wc_model.proofs.Common.{and_from, cases_lt, sum_by-cons, then_some, is_ascii_alphabetic, is_ascii_digit, after_first, list_all, list_any, position_or_len, prefix_len, digits_value}
use Rattle.std.specs.Option.{option_and_then, option_map_or}
use Rattle.wc_lexer.proofs.Cuts.{some_passes}
use Rattle.wc_lexer.proofs.FirstParts.{is_no_letter, text_parts}
use Rattle.wc_laws_grammar.proofs.DurationParts.{part}
use Rattle.wc_lexer.proofs.Fractions.{wide_product}
use Rattle.wc_lexer.proofs.Widths.{from_wide, narrow, wide, wide_for_32_bits}
use Rattle.wc_lexer.specs.Numbers.{IsParsedPart, IsParsedSum, IsParsedAs, are_later, are_none, parsed_fraction, part_by, within_64_bits}
use Rattle.wc_lexer.specs.declared.durations.ParsedPart.{ParsedPart}
use Rattle.wc_lexer.specs.declared.durations.TimeUnit as units
use Rattle.wc_model.specs.Definitions.{begins, is_empty, is_point, is_underscore, are_digits, value_of_digits, within_32_bits}
use Rattle.wc_model.specs.Text.Durations.{Part, TimeUnit, are_duration_parts, billionths, billionths_of, fraction_digits, has_fraction_format, has_point, has_whole_format, is_falling, is_later_part, is_part, milliseconds_of, duration_parts, parts_of, without_separator, unit_below, unit_milliseconds, unit_named, whole_of}

-- what is too wide stays so under a sum
pub wide_sum : (n more : ℕ) → None ≡ within_64_bits n → None ≡ within_64_bits (n + more)
wide_sum n more e =
    let here = from_wide n e in
    sym (wide (n + more) (omega arith))

-- a whole number that is too wide makes the part so
pub wide_whole : (whole fraction milliseconds : ℕ) → 1 ≤ milliseconds → None ≡ within_64_bits (whole * 10 ^ 9) → None ≡ within_64_bits ((whole * 10 ^ 9 + fraction) * milliseconds)
wide_whole whole fraction milliseconds h e = wide_product (whole * 10 ^ 9 + fraction) milliseconds h (wide_sum (whole * 10 ^ 9) fraction e)

-- the unit as the lexer has it
abbrev pub parsed_unit : TimeUnit → units.TimeUnit
parsed_unit unit = record { milliseconds = unit.milliseconds; below = unit.below }

-- what a unit that is found says
pub unit_facts : (found : Option TimeUnit) (unit : units.TimeUnit) → option_map parsed_unit found ≡ Some unit → (is_some found ≡ true) × (unit.milliseconds ≡ option_map_or (λ u. u.milliseconds) found 0) × (unit.below ≡ option_map_or (λ u. u.below) found 0)
unit_facts None unit e = absurd (cc)
unit_facts (Some found) unit e =
    let same : parsed_unit found ≡ unit = cc in
    (refl, sym (ap (λ u. u.milliseconds) same), sym (ap (λ u. u.below) same))

-- no unit, no part
pub no_unit : (part : Part) → None ≡ option_map parsed_unit (unit_named part.letters) → is_part part ≡ false
no_unit part e = go (unit_named part.letters) e
  where
    go : (found : Option TimeUnit) → None ≡ option_map parsed_unit found → (is_some found && has_whole_format part && has_fraction_format part) ≡ false
    go None f = refl
    go (Some unit) f = absurd (cc)

-- a form in the middle that fails
pub fails_middle : (a b c : Bool) → b ≡ false → (a && b && c) ≡ false
fails_middle true true c h = absurd (cc)
fails_middle true false c h = refl
fails_middle false b c h = refl

-- a form at the end that fails
pub fails_last : (a b c : Bool) → c ≡ false → (a && b && c) ≡ false
fails_last true true c h = h
fails_last true false c h = refl
fails_last false b c h = refl

-- the billionths after a part's point
abbrev pub fraction_value : Part → ℕ
fraction_value part = digits_value 10 (fraction_digits part) * 10 ^ (9 - length (fraction_digits part))

-- a part of right form, by its widths
pub parsed_by_width : (part : Part) (unit : units.TimeUnit) → 1 ≤ unit.milliseconds → option_map parsed_unit (unit_named part.letters) ≡ Some unit → is_part part ≡ true → IsParsedPart part (part_by unit (within_64_bits (whole_of part)) (within_64_bits (fraction_value part)) (has_point part))
parsed_by_width part unit h e format = ⊎_elim narrow_whole wide_case (cases_lt (whole_of part) (2 ^ 64))
  where
    facts : (unit.milliseconds ≡ unit_milliseconds part) × (unit.below ≡ unit_below part)
    facts = let all = unit_facts (unit_named part.letters) unit e in (all.1, all.2)

    grown : (whole_of part * 10 ^ 9 + fraction_value part) * unit.milliseconds ≡ billionths_of part
    grown = ap (λ m. (whole_of part * 10 ^ 9 + fraction_value part) * m) facts.0

    wide_parsed : (w f : Option ℕ) → (2 ^ 64 ≤ whole_of part * 10 ^ 9 + fraction_value part) → (w ≡ None) ⊎ (f ≡ None) → IsParsedPart part (part_by unit w f (has_point part))
    wide_parsed w f more (inl none) = subst (λ o. IsParsedPart part (part_by unit o f (has_point part))) (sym none) (inr (let k = from_wide _ (wide_product (whole_of part * 10 ^ 9 + fraction_value part) unit.milliseconds h (sym (wide _ more))) in subst (λ n. 2 ^ 64 ≤ n) grown k))
    wide_parsed None f more (inr none) = inr (let k = from_wide _ (wide_product (whole_of part * 10 ^ 9 + fraction_value part) unit.milliseconds h (sym (wide _ more))) in subst (λ n. 2 ^ 64 ≤ n) grown k)
    wide_parsed (Some w) f more (inr none) = subst (λ o. IsParsedPart part (part_by unit (Some w) o (has_point part))) (sym none) (inr (let k = from_wide _ (wide_product (whole_of part * 10 ^ 9 + fraction_value part) unit.milliseconds h (sym (wide _ more))) in subst (λ n. 2 ^ 64 ≤ n) grown k))

    wide_case : 2 ^ 64 ≤ whole_of part → IsParsedPart part (part_by unit (within_64_bits (whole_of part)) (within_64_bits (fraction_value part)) (has_point part))
    wide_case more = wide_parsed _ _ (omega arith) (inl (wide (whole_of part) more))

    last : IsParsedPart part (option_map (λ n. record { milliseconds = unit.milliseconds; below = unit.below; whole = whole_of part; has_point = has_point part; billionths = n }) (within_64_bits ((whole_of part * 10 ^ 9 + fraction_value part) * unit.milliseconds)))
    last = subst (λ n. IsParsedPart part (option_map (λ m. record { milliseconds = unit.milliseconds; below = unit.below; whole = whole_of part; has_point = has_point part; billionths = m }) (within_64_bits n))) (sym grown) (⊎_elim
        (λ less. subst (λ o. IsParsedPart part (option_map (λ m. record { milliseconds = unit.milliseconds; below = unit.below; whole = whole_of part; has_point = has_point part; billionths = m }) o)) (sym (narrow (billionths_of part) less)) (record { format = format; milliseconds = facts.0; below = facts.1; whole = refl; point = refl; billionths = refl }))
        (λ more. subst (λ o. IsParsedPart part (option_map (λ m. record { milliseconds = unit.milliseconds; below = unit.below; whole = whole_of part; has_point = has_point part; billionths = m }) o)) (sym (wide (billionths_of part) more)) (inr more))
        (cases_lt (billionths_of part) (2 ^ 64)))

    narrow_whole : whole_of part < 2 ^ 64 → IsParsedPart part (part_by unit (within_64_bits (whole_of part)) (within_64_bits (fraction_value part)) (has_point part))
    narrow_whole less = ⊎_elim
        (λ narrow_fraction. subst (λ o. IsParsedPart part (part_by unit o (within_64_bits (fraction_value part)) (has_point part))) (sym (narrow _ less)) (subst (λ o. IsParsedPart part (part_by unit (Some (whole_of part)) o (has_point part))) (sym (narrow _ narrow_fraction)) last))
        (λ more. wide_parsed _ _ (omega arith) (inr (wide (fraction_value part) more)))
        (cases_lt (fraction_value part) (2 ^ 64))

-- a part without a whole number or without billionths is not one
pub part_by_none : (part : Part) (unit : units.TimeUnit) (w f : Option ℕ) → is_part part ≡ false → (w ≡ None) ⊎ (f ≡ None) → IsParsedPart part (part_by unit w f (has_point part))
part_by_none part unit None f h none = inl h
part_by_none part unit (Some w) None h none = inl h
part_by_none part unit (Some w) (Some f) h (inl e) = absurd (cc)
part_by_none part unit (Some w) (Some f) h (inr e) = absurd (cc)

-- a part by its forms
pub parsed_by_format : (part : Part) (unit : units.TimeUnit) → 1 ≤ unit.milliseconds → option_map parsed_unit (unit_named part.letters) ≡ Some unit → (whole_format fraction_format : Bool) → has_whole_format part ≡ whole_format → has_fraction_format part ≡ fraction_format → IsParsedPart part (part_by unit (option_and_then within_64_bits (then_some whole_format (whole_of part))) (option_and_then within_64_bits (then_some fraction_format (fraction_value part))) (has_point part))
parsed_by_format part unit h e true true f g = parsed_by_width part unit h e (and_from _ _ (and_from _ _ (unit_facts (unit_named part.letters) unit e).0 f) g)
parsed_by_format part unit h e false fraction_format f g = part_by_none part unit None (option_and_then within_64_bits (then_some fraction_format (fraction_value part))) (fails_middle (is_some (unit_named part.letters)) (has_whole_format part) (has_fraction_format part) f) (inl refl)
parsed_by_format part unit h e true false f g = part_by_none part unit (option_and_then within_64_bits (then_some true (whole_of part))) None (fails_last (is_some (unit_named part.letters)) (has_whole_format part) (has_fraction_format part) g) (inr refl)

-- what a part is parsed as
pub part_parsed : (part : Part) (unit : units.TimeUnit) (named : Option units.TimeUnit) (whole fraction : Option ℕ) (point : Bool) (answer : Option ParsedPart) → named ≡ option_map parsed_unit (unit_named part.letters) → named ≡ Some unit → 1 ≤ unit.milliseconds → whole ≡ option_and_then within_64_bits (then_some (has_whole_format part) (whole_of part)) → fraction ≡ option_and_then within_64_bits (then_some (has_fraction_format part) (fraction_value part)) → point ≡ has_point part → answer ≡ part_by unit whole fraction point → IsParsedPart part answer
part_parsed part unit named whole fraction point answer e is h w f p a =
    let all = parsed_by_format part unit h (sym e ∙ is) (has_whole_format part) (has_fraction_format part) refl refl in
    let wanted : Option ℕ = option_and_then within_64_bits (then_some (has_whole_format part) (whole_of part)) in
    let following : Option ℕ = option_and_then within_64_bits (then_some (has_fraction_format part) (fraction_value part)) in
    subst (IsParsedPart part) (sym (a ∙ ap (λ o. part_by unit o fraction point) w ∙ ap (λ o. part_by unit wanted o point) f ∙ ap (λ b. part_by unit wanted following b) p)) all

-- a list that has no length is empty
pub empty : (xs : List ℕ) → length xs ≤ 0 → xs ≡ []
empty [] h = refl
empty (x ∷ xs) h = absurd (omega arith)

-- nothing follows a point that is not there
pub none_after : (number : List ℕ) → list_any is_point number ≡ false → after_first is_point number ≡ []
none_after number h =
    ⊎_elim (λ less. absurd (true≢false (sym (some_passes is_point number less) ∙ h))) (λ more. empty (after_first is_point number) (omega (arith, length-drop (position_or_len is_point number + 1) number))) (cases_lt (position_or_len is_point number) (length number))

-- a fraction by what follows the point
abbrev pub fraction_by : Bool → List ℕ → Option ℕ
fraction_by point after = option_and_then within_64_bits (then_some (not point || (nat_le 1 (length after) && nat_le (length after) 9 && list_all is_ascii_digit after)) (digits_value 10 after * 10 ^ (9 - length after)))

-- if there is no point, there are no billionths
pub no_fraction : (number : List ℕ) → list_any is_point number ≡ false → Some 0 ≡ parsed_fraction number
no_fraction number h = sym (ap (λ v. fraction_by v (after_first is_point number)) h ∙ ap (fraction_by false) (none_after number h))

-- what digits before a point are parsed as
abbrev pub whole_parsed : List ℕ → Option ℕ
whole_parsed text = option_and_then within_64_bits (then_some (are_digits 10 text && nat_le (count_by (λ b. not (is_underscore b)) text) 12) (value_of_digits 10 text))

-- ---- the parts after a part

-- the part may follow a unit so long
abbrev pub may_occur : ParsedPart → ℕ → Bool → Bool
may_occur part above last = nat_lt part.whole part.below && nat_lt part.milliseconds above && (not part.has_point || last)

-- the form of a part and the parts after it
abbrev pub format_of : Bool → (whole below milliseconds above : ℕ) → (point last later : Bool) → Bool
format_of is whole below milliseconds above point last later = is && nat_lt whole below && nat_lt milliseconds above && (not point || last) && later

-- the form by what is parsed
pub parsed_format : (above : ℕ) (part : Part) (parts : List Part) (one : ParsedPart) → IsParsedAs part one → are_later above (part ∷ parts) ≡ (may_occur one above (are_none parts) && are_later one.milliseconds parts)
parsed_format above part parts one parses =
    ap (λ v. format_of v (whole_of part) (unit_below part) (unit_milliseconds part) above (has_point part) (are_none parts) (are_later (unit_milliseconds part) parts)) parses.format
    ∙ ap (λ v. format_of true v (unit_below part) (unit_milliseconds part) above (has_point part) (are_none parts) (are_later (unit_milliseconds part) parts)) (sym parses.whole)
    ∙ ap (λ v. format_of true one.whole v (unit_milliseconds part) above (has_point part) (are_none parts) (are_later (unit_milliseconds part) parts)) (sym parses.below)
    ∙ ap (λ v. format_of true one.whole one.below v above (has_point part) (are_none parts) (are_later v parts)) (sym parses.milliseconds)
    ∙ ap (λ v. format_of true one.whole one.below one.milliseconds above v (are_none parts) (are_later one.milliseconds parts)) (sym parses.point)

-- a sum of parts, from the first on
pub first_sum : (part : Part) (parts : List Part) → billionths_of part + billionths parts ≡ billionths (part ∷ parts)
first_sum part parts = sym (sum_by-cons billionths_of part parts)

-- a sum with a part before it
pub sum_parsed : (format whole : Bool) (one sum total first : ℕ) (later answer : Option ℕ) → whole ≡ format → one ≡ first → first + sum ≡ total → IsParsedSum format sum later → answer ≡ option_and_then (λ more. within_64_bits (one + more)) later → IsParsedSum whole total answer
sum_parsed format whole one sum total first None answer f e all (inl h) a = subst (IsParsedSum whole total) (sym a) (inl (f ∙ h))
sum_parsed format whole one sum total first None answer f e all (inr h) a = subst (IsParsedSum whole total) (sym a) (inr (omega arith))
sum_parsed format whole one sum total first (Some more) answer f e all h a =
    let same : one + more ≡ total = omega (arith, h.1) in
    ⊎_elim
    (λ less. subst (IsParsedSum whole total) (sym (a ∙ ap within_64_bits same ∙ narrow total less)) (f ∙ h.0, refl))
    (λ wider. subst (IsParsedSum whole total) (sym (a ∙ ap within_64_bits same ∙ wide total wider)) (inr wider))
    (cases_lt total (2 ^ 64))

-- where a part may be
pub later_sum : (above : ℕ) (part : Part) (parts : List Part) (one : ParsedPart) (later answer : Option ℕ) → IsParsedAs part one → may_occur one above (are_none parts) ≡ true → IsParsedSum (are_later one.milliseconds parts) (billionths parts) later → answer ≡ option_and_then (λ more. within_64_bits (one.billionths + more)) later → IsParsedSum (are_later above (part ∷ parts)) (billionths (part ∷ parts)) answer
later_sum above part parts one later answer parses h summed a =
    sum_parsed (are_later one.milliseconds parts) (are_later above (part ∷ parts)) one.billionths (billionths parts) (billionths (part ∷ parts)) (billionths_of part) later answer (parsed_format above part parts one parses ∙ ap (λ v. v && are_later one.milliseconds parts) h) parses.billionths (first_sum part parts) summed a

-- ---- all parts

-- the forms after the first part
abbrev pub after_shape : Part → List Part → Bool
after_shape first later = list_all is_later_part later && is_falling (map unit_milliseconds (first ∷ later)) && not (list_any has_point (take (length later) (first ∷ later)))

-- one part more, where it may be
regrouped : (a b c d e g x y : Bool) → (b && d && not g) ≡ (x && y) → ((a && b) && (c && d) && not (e || g)) ≡ ((not e || false) && (a && c && x && y))
regrouped true b true d false g x y h = h
regrouped true true true true true g x y h = refl
regrouped true true true false true g x y h = refl
regrouped true false true d true g x y h = refl
regrouped true true false d true g x y h = refl
regrouped true false false d true g x y h = refl
regrouped false b c d true g x y h = refl
regrouped other another third fourth fifth g x y h = refl

-- the forms after the first part, from part to part
pub same_after : (first : Part) (later : List Part) → after_shape first later ≡ ((not (has_point first) || are_none later) && are_later (unit_milliseconds first) later)
same_after first [] = elim (has_point first) as (λ v. true ≡ ((not v || true) && true)) [ true ↦ refl | false ↦ refl ]
same_after first (part ∷ parts) =
    regrouped (is_later_part part) (list_all is_later_part parts) (nat_lt (unit_milliseconds part) (unit_milliseconds first)) (is_falling (map unit_milliseconds (part ∷ parts))) (has_point first) (list_any has_point (take (length parts) (part ∷ parts))) (not (has_point part) || are_none parts) (are_later (unit_milliseconds part) parts) (same_after part parts)

-- the form of all parts
pub same_shape : (first : Part) (later : List Part) (one : ParsedPart) → IsParsedAs first one → are_duration_parts (first ∷ later) ≡ ((not one.has_point || are_none later) && are_later one.milliseconds later)
same_shape first later one parses =
    ap (λ v. v && list_all is_later_part later && is_falling (map unit_milliseconds (first ∷ later)) && not (list_any has_point (take (length later) (first ∷ later)))) parses.format
    ∙ same_after first later
    ∙ ap (λ v. (not v || are_none later) && are_later (unit_milliseconds first) later) (sym parses.point)
    ∙ ap (λ v. (not one.has_point || are_none later) && are_later v later) (sym parses.milliseconds)

-- the sum of all parts
pub all_sum : (first : Part) (parts : List Part) (one : ParsedPart) (later answer : Option ℕ) → IsParsedAs first one → (not one.has_point || are_none parts) ≡ true → IsParsedSum (are_later one.milliseconds parts) (billionths parts) later → answer ≡ option_and_then (λ more. within_64_bits (one.billionths + more)) later → IsParsedSum (are_duration_parts (first ∷ parts)) (billionths (first ∷ parts)) answer
all_sum first parts one later answer parses h summed a =
    sum_parsed (are_later one.milliseconds parts) (are_duration_parts (first ∷ parts)) one.billionths (billionths parts) (billionths (first ∷ parts)) (billionths_of first) later answer (same_shape first parts one parses ∙ ap (λ v. v && are_later one.milliseconds parts) h) parses.billionths (first_sum first parts) summed a

-- ---- milliseconds

-- if there is no sum
pub no_milliseconds : (negative : Bool) (parts : List Part) → IsParsedSum (are_duration_parts parts) (billionths parts) None → None ≡ milliseconds_of negative parts
no_milliseconds negative parts (inl h) = sym (ap (λ v. cond (v && (billionths parts % 10 ^ 9 == 0)) (within_32_bits (cond negative (neg_ℤ (pos (billionths parts / 10 ^ 9))) (pos (billionths parts / 10 ^ 9)))) None) h)
no_milliseconds negative parts (inr h) =
    let over = wide_for_32_bits negative (billionths parts / 10 ^ 9) (omega arith) in
    elim (are_duration_parts parts && (billionths parts % 10 ^ 9 == 0)) as (λ v. None ≡ cond v (within_32_bits (cond negative (neg_ℤ (pos (billionths parts / 10 ^ 9))) (pos (billionths parts / 10 ^ 9)))) None) [ true ↦ sym over | false ↦ refl ]

-- ---- the text of parts

-- no text, no parts
pub last_is : (rest : List ℕ) → is_empty rest ≡ are_none (map without_separator (parts_of rest))
last_is [] = refl
last_is (b ∷ rest) = sym (ap (λ ps. are_none (map without_separator ps)) (text_parts (b ∷ rest) (omega arith) (prefix_len is_no_letter (b ∷ rest)) refl (prefix_len is_ascii_alphabetic (drop (prefix_len is_no_letter (b ∷ rest)) (b ∷ rest))) refl))

-- the sum of later parts in a text
pub text_later : (above : ℕ) (text number trimmed letters rest : List ℕ) (last : Bool) (one : ParsedPart) (later answer : Option ℕ) → parts_of text ≡ part number letters ∷ parts_of rest → trimmed ≡ drop (cond (begins is_underscore number) 1 0) number → IsParsedAs (part trimmed letters) one → last ≡ is_empty rest → may_occur one above last ≡ true → IsParsedSum (are_later one.milliseconds (map without_separator (parts_of rest))) (billionths (map without_separator (parts_of rest))) later → answer ≡ option_and_then (λ more. within_64_bits (one.billionths + more)) later → IsParsedSum (are_later above (map without_separator (parts_of text))) (billionths (map without_separator (parts_of text))) answer
text_later above text number trimmed letters rest last one later answer e t parses l h summed a =
    subst (λ ps. IsParsedSum (are_later above (map without_separator ps)) (billionths (map without_separator ps)) answer) (sym e)
    (later_sum above (without_separator (part number letters)) (map without_separator (parts_of rest)) one later answer (subst (λ n. IsParsedAs (part n letters) one) t parses) (ap (may_occur one above) (sym (l ∙ last_is rest)) ∙ h) summed a)

-- the parts of a duration by those of its text
abbrev pub separated : List Part → List Part
separated parts = take 1 parts ++ map without_separator (drop 1 parts)

-- the sum of all parts in a text
pub text_all : (text number letters rest : List ℕ) (last : Bool) (one : ParsedPart) (later answer : Option ℕ) → parts_of text ≡ part number letters ∷ parts_of rest → IsParsedAs (part number letters) one → last ≡ is_empty rest → (not one.has_point || last) ≡ true → IsParsedSum (are_later one.milliseconds (map without_separator (parts_of rest))) (billionths (map without_separator (parts_of rest))) later → answer ≡ option_and_then (λ more. within_64_bits (one.billionths + more)) later → IsParsedSum (are_duration_parts (duration_parts text)) (billionths (duration_parts text)) answer
text_all text number letters rest last one later answer e parses l h summed a =
    subst (λ ps. IsParsedSum (are_duration_parts (separated ps)) (billionths (separated ps)) answer) (sym e)
    (all_sum (part number letters) (map without_separator (parts_of rest)) one later answer parses (ap (λ v. not one.has_point || v) (sym (l ∙ last_is rest)) ∙ h) summed a)

-- a first part that may not be there
pub text_unfit : (text number letters rest : List ℕ) (last : Bool) (one : ParsedPart) → parts_of text ≡ part number letters ∷ parts_of rest → IsParsedAs (part number letters) one → last ≡ is_empty rest → (not one.has_point || last) ≡ false → IsParsedSum (are_duration_parts (duration_parts text)) (billionths (duration_parts text)) None
text_unfit text number letters rest last one e parses l h =
    subst (λ ps. IsParsedSum (are_duration_parts (separated ps)) (billionths (separated ps)) None) (sym e)
    (inl (same_shape (part number letters) (map without_separator (parts_of rest)) one parses ∙ ap (λ v. v && are_later one.milliseconds (map without_separator (parts_of rest))) (ap (λ v. not one.has_point || v) (sym (l ∙ last_is rest)) ∙ h)))
