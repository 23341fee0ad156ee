-- All records of a text, as the function that reads n of them gives them.
use Rattle.std.proofs.Common.{◌≡◌, ◌≤◌, ◌<◌, ◌+◌, ℕ, zero, suc, Bool, true, false, cond, List, [], ◌∷◌, length, Option, Some, None, refl, arith, ◌==◌, ◌&&◌, ◌++◌}
use Rattle.csv.specs.Machine.{Read, after_end, ends_at_end, ends_with, field_after, fields_after, in_field, is_byte, is_end, next_record, start_field, start_record, step}
use Rattle.csv.specs.Reading.{AreRecords, Reached, records, records_from, records_next}
use Rattle.csv.specs.declared.parser.Action.{Action}
use Rattle.csv.specs.declared.parser.Action.TheVariants as act
use Rattle.csv.specs.declared.parser.Config.{Config}
use Rattle.csv.specs.declared.parser.State.{State}
use Rattle.csv.specs.declared.parser.State.TheVariants as st
use Rattle.csv.specs.declared.parser.Terminator.{Terminator}
use Rattle.csv.specs.declared.parser.Terminator.TheVariants as term

-- a step that ends a record leaves nothing open
abbrev EndsWell : State × Action → Type 0
EndsWell q = is_end q.1 ≡ true → ends_at_end q.0 ≡ false

-- either of two such steps
either : (b : Bool) (q r : State × Action) → EndsWell q → EndsWell r → EndsWell (cond b q r)
either true q r h k = h
either false q r h k = k

-- a state after a terminator
after : (t : Terminator) (c : ℕ) → ends_at_end (after_end t c) ≡ false
after term.CRLF c = by_cr (c == 13)
  where
    by_cr : (b : Bool) → ends_at_end (cond b st.AfterCr st.StartRecord) ≡ false
    by_cr true = refl
    by_cr false = refl
after (term.Any t) c = refl

-- no end
plain : (s : State) (a : Action) → is_end a ≡ false → EndsWell (s, a)
plain s a e = λ h. cc

-- in a field
in_field_ends : (cfg : Config) (c : ℕ) → EndsWell (in_field cfg c)
in_field_ends cfg c =
    either (c == cfg.delimiter) _ _ (plain st.StartField act.EndField refl) (either (ends_with cfg.terminator c) _ _ (λ h. after cfg.terminator c) (plain st.InField act.Copy refl))

-- at a field's start
start_field_ends : (cfg : Config) (c : ℕ) → EndsWell (start_field cfg c)
start_field_ends cfg c = either (cfg.quoting && (c == cfg.quote)) _ _ (plain st.InQuoted act.Skip refl) (in_field_ends cfg c)

-- at a record's start
start_record_ends : (cfg : Config) (c : ℕ) → EndsWell (start_record cfg c)
start_record_ends cfg c =
    either (ends_with cfg.terminator c) _ _ (plain st.StartRecord act.Skip refl) (either (is_byte cfg.comment c) _ _ (plain st.InComment act.Skip refl) (start_field_ends cfg c))

-- each step
step_ends : (cfg : Config) (s : State) (c : ℕ) → EndsWell (step cfg s c)
step_ends cfg st.StartRecord c = start_record_ends cfg c
step_ends cfg st.StartField c = start_field_ends cfg c
step_ends cfg st.InField c = in_field_ends cfg c
step_ends cfg st.InQuoted c =
    either (cfg.quoting && (c == cfg.quote)) _ _ (plain st.AfterQuote act.Skip refl) (either (cfg.quoting && is_byte cfg.escape c) _ _ (plain st.InEscape act.Skip refl) (plain st.InQuoted act.Copy refl))
step_ends cfg st.InEscape c = plain st.InQuoted act.Copy refl
step_ends cfg st.AfterQuote c = either (cfg.quoting && cfg.double_quote && (c == cfg.quote)) _ _ (plain st.InQuoted act.Copy refl) (in_field_ends cfg c)
step_ends cfg st.InComment c = either (c == 10) _ _ (plain st.StartRecord act.Skip refl) (plain st.InComment act.Skip refl)
step_ends cfg st.AfterCr c = either (c == 10) _ _ (plain st.StartRecord act.Skip refl) (start_record_ends cfg c)

-- after a record nothing is open, and the text is no longer
record After (s : State) (xs : List ℕ) (p : Read) : Type 0 where
  closed : ends_at_end p.1 ≡ false
  no_longer : length p.2 ≤ length xs
  shorter : ends_at_end s ≡ false → length p.2 < length xs

-- so after each record
following : (cfg : Config) (s : State) (fields : List (List ℕ)) (field xs : List ℕ) (p : Read) → next_record cfg s fields field xs ≡ Some p → After s xs p
unfolding next_record
following cfg s fields field [] p e = by_end (ends_at_end s) refl e
  where
    by_end : (b : Bool) → ends_at_end s ≡ b → cond b (Some (fields ++ (field ∷ []), st.StartRecord, [])) None ≡ Some p → After s [] p
    by_end true opened f =
        let here : (fields ++ (field ∷ []), st.StartRecord, []) ≡ p = cc in
        rw (← here) (record { closed = refl; no_longer = omega arith; shorter = λ h. cc })
    by_end false opened f = cc
following cfg s fields field (c ∷ rest) p e = by_end (is_end (step cfg s c).1) refl e (following cfg (step cfg s c).0 (fields_after (step cfg s c).1 fields field) (field_after (step cfg s c).1 c field) rest p)
  where
    by_end : (b : Bool) → is_end (step cfg s c).1 ≡ b
        → cond b (Some (fields_after (step cfg s c).1 fields field, (step cfg s c).0, rest)) (next_record cfg (step cfg s c).0 (fields_after (step cfg s c).1 fields field) (field_after (step cfg s c).1 c field) rest) ≡ Some p
        → (next_record cfg (step cfg s c).0 (fields_after (step cfg s c).1 fields field) (field_after (step cfg s c).1 c field) rest ≡ Some p → After (step cfg s c).0 rest p)
        → After s (c ∷ rest) p
    by_end true ended f more =
        let here : (fields_after (step cfg s c).1 fields field, (step cfg s c).0, rest) ≡ p = cc in
        rw (← here) (record { closed = step_ends cfg s c ended; no_longer = omega arith; shorter = λ h. omega arith })
    by_end false ended f more =
        let b = more f in
        record { closed = b.closed; no_longer = omega (arith, b.no_longer); shorter = λ h. omega (arith, b.no_longer) }

-- as many records as there can be are all
all_records : (cfg : Config) (n : ℕ) (s : State) (xs : List ℕ) → length xs < n → ends_at_end s ≡ false → AreRecords cfg s xs (records_from cfg n s xs)
unfolding records_from Reached
all_records cfg zero s xs h closed = absurd (omega arith)
all_records cfg (suc n) s xs h closed = by_next (next_record cfg s [] [] xs) refl (all_records cfg n)
  where
    by_next : (o : Option Read) → next_record cfg s [] [] xs ≡ o
        → ((s2 : State) (ys : List ℕ) → length ys < n → ends_at_end s2 ≡ false → AreRecords cfg s2 ys (records_from cfg n s2 ys))
        → AreRecords cfg s xs (records_next (records_from cfg n) o)
    by_next None e more = (s, xs, (refl, refl), e)
    by_next (Some p) e more =
        let b = following cfg s [] [] xs p e in
        let short = b.shorter closed in
        let rest = more p.1 p.2 (omega arith) b.closed in
        (rest.0, rest.1, (p, e, refl, rest.2), rest.3)

-- the records of a text are all of its records
pub records_are_all : (cfg : Config) (xs : List ℕ) → AreRecords cfg st.StartRecord xs (records cfg xs)
records_are_all cfg xs = all_records cfg (length xs + 1) st.StartRecord xs (omega arith) refl
