-- What is cut off a log changes neither its rows nor its refusal.
use Rattle.wc_model.proofs.Common.{◌≡◌, ◌≤◌, ◌⊎◌, ◌+◌, ◌&&◌, ℕ, suc, Bool, true, false, cond, List, [], ◌∷◌, ◌++◌, length, min, Option, Some, None, Err, refl, sym, ap, ◌∙◌, inl, inr, length-append, arith, ⊤, codes, nat_le, nat_lt, nat_tests, bytes_eq}
use Rattle.csv.specs.Machine.{Read, ends_at_end, field_after, fields_after, is_end, next_record, step}
use Rattle.csv.specs.Reading.{AreRecords, Reached, default_config, records}
use Rattle.csv.specs.declared.parser.Action.{Action}
use Rattle.csv.specs.declared.parser.Action.TheVariants as act
use Rattle.csv.specs.declared.parser.State.{State}
use Rattle.csv.specs.declared.parser.State.TheVariants as st
use Rattle.wc_model.specs.Run.Log.{LogOf, Record, first_row, has_fields, last_moment, log_after, log_of, log_with, most_rows, refused_at, row_of, row_of_fields}
use Rattle.wc_record.proofs.RecordEnds.{records_are_all}
use Rattle.wc_record.proofs.Representation.{LeadsTo, IsAt, leads}
use Rattle.wc_record.specs.Cutting.{cut_from, after, is_cut, record_start}
use Rattle.wc_record.specs.declared.place.LogPlace.{LogPlace}

-- a record of more than three fields
abbrev IsLong : Record → Type 0
IsLong fields = 4 ≤ length fields

-- a record was read, of more than three fields
abbrev ReadsLong : Option Read → Type 0
ReadsLong None = ⊥
ReadsLong (Some p) = IsLong p.0

-- if a step does not end the record, the machine is at the next place
still_represents : (s : State) (fields : Record) (field : List ℕ) (byte : ℕ) (q : State × Action) (place : LogPlace) → is_end q.1 ≡ false → LeadsTo (length fields) q place → IsAt q.0 (length (fields_after q.1 fields field)) place
still_represents s fields field byte (state, act.EndRecord) place e h = cc
still_represents s fields field byte (state, act.EndField) place e h = rw (length-append fields (field ∷ [])) h
still_represents s fields field byte (state, act.Skip) place e h = h
still_represents s fields field byte (state, act.Copy) place e h = h

-- a step loses no field
keeps_fields : (a : Action) (fields : Record) (field : List ℕ) → length fields ≤ length (fields_after a fields field)
keeps_fields act.EndRecord fields field = omega (arith, length-append fields (field ∷ []))
keeps_fields act.EndField fields field = omega (arith, length-append fields (field ∷ []))
keeps_fields act.Skip fields field = omega arith
keeps_fields act.Copy fields field = omega arith

-- the end of a record is the end of a field
ends_field : (a : Action) (fields : Record) (field : List ℕ) → is_end a ≡ true → length (fields_after a fields field) ≡ length fields + 1
ends_field act.EndRecord fields field e = length-append fields (field ∷ [])
ends_field act.EndField fields field e = cc
ends_field act.Skip fields field e = cc
ends_field act.Copy fields field e = cc

-- if three fields have ended, the end of the text ends a record
ends_open : (s : State) (ended : ℕ) (place : LogPlace) → IsAt s ended place → 3 ≤ ended → ends_at_end s ≡ true
ends_open st.StartRecord ended place h few = absurd (omega (arith, h.1))
ends_open st.AfterCr ended place h few = absurd (omega (arith, h.1))
ends_open st.StartField ended place h few = refl
ends_open st.AfterQuote ended place h few = refl
ends_open st.InField ended place h few = refl
ends_open st.InQuoted ended place h few = refl
ends_open st.InEscape ended place h few = absurd h
ends_open st.InComment ended place h few = absurd h

-- if three fields have ended, the record is long however it goes on
long_record : (s : State) (fields : Record) (field xs : List ℕ) (place : LogPlace) → IsAt s (length fields) place → 3 ≤ length fields → ReadsLong (next_record default_config s fields field xs)
unfolding next_record
long_record s fields field [] place h few =
    let ended = length-append fields (field ∷ []) in
    rw (ends_open s (length fields) place h few) (omega (arith, ended))
long_record s fields field (byte ∷ rest) place h few = by_end (is_end a) refl (long_record (step default_config s byte).0 (fields_after a fields field) (field_after a byte field) rest (after place byte))
  where
    a : Action
    a = (step default_config s byte).1

    next : Option Read
    next = next_record default_config (step default_config s byte).0 (fields_after a fields field) (field_after a byte field) rest

    by_end : (b : Bool) → is_end a ≡ b → (IsAt (step default_config s byte).0 (length (fields_after a fields field)) (after place byte) → 3 ≤ length (fields_after a fields field) → ReadsLong next)
        → ReadsLong (cond b (Some (fields_after a fields field, (step default_config s byte).0, rest)) next)
    by_end true e more = omega (arith, few, ends_field a fields field e)
    by_end false e more =
        more (still_represents s fields field byte (step default_config s byte) (after place byte) e (leads s (length fields) place byte h)) (omega (arith, few, keeps_fields a fields field))

-- what was read of a text, and of what is left of it by the cut: the same record, or two long ones
abbrev pub AreAlike : Option Read → Option Read → Type 0
AreAlike None None = ⊤
AreAlike None (Some q) = ⊥
AreAlike (Some p) None = ⊥
AreAlike (Some p) (Some q) = ((p.0 ≡ q.0) × (p.1 ≡ q.1) × (q.2 ≡ cut_from record_start p.2) × IsAt p.1 0 record_start) ⊎ (IsLong p.0 × IsLong q.0)

-- a place gives the number of fields that have ended, up to three
ended_is : (s : State) (ended : ℕ) (place : LogPlace) → IsAt s ended place → place.ended ≡ min 3 ended
ended_is st.StartRecord ended place h = rw (h.0, h.1) refl
ended_is st.AfterCr ended place h = rw (h.0, h.1) refl
ended_is st.StartField ended place h = rw h.1 refl
ended_is st.AfterQuote ended place h = rw h.1 refl
ended_is st.InField ended place h = rw h.1 refl
ended_is st.InQuoted ended place h = rw h.1 refl
ended_is st.InEscape ended place h = absurd h
ended_is st.InComment ended place h = absurd h

-- after the cut three fields have ended
three_ended : (place : LogPlace) → is_cut place ≡ true → 3 ≤ place.ended
three_ended place e = by_test (nat_le 3 place.ended) refl e
  where
    by_test : (b : Bool) → nat_le 3 place.ended ≡ b → (b && nat_le 65536 place.size) ≡ true → 3 ≤ place.ended
    by_test true f h = grind (arith, nat_tests)
    by_test false f h = cc

-- two long ones
both_long : (o u : Option Read) → ReadsLong o → ReadsLong u → AreAlike o u
both_long None u h k = absurd h
both_long (Some p) None h k = absurd k
both_long (Some p) (Some q) h k = inr (h, k)

-- the end of a record leads to the start of one
at_start : (ended : ℕ) (q : State × Action) (place : LogPlace) → is_end q.1 ≡ true → LeadsTo ended q place → (place ≡ record_start) × IsAt q.0 0 record_start
at_start ended (state, act.EndRecord) place e h = h
at_start ended (state, act.EndField) place e h = cc
at_start ended (state, act.Skip) place e h = cc
at_start ended (state, act.Copy) place e h = cc

-- the text's end
same_end : (b : Bool) (fields : Record) → AreAlike (cond b (Some (fields, st.StartRecord, [])) None) (cond b (Some (fields, st.StartRecord, [])) None)
unfolding cut_from
same_end true fields = inl (refl, refl, refl, (refl, refl))
same_end false fields = tt

-- the next record of a text, and of what is left of it by the cut
pub next_alike : (s : State) (fields : Record) (field xs : List ℕ) (place : LogPlace) → IsAt s (length fields) place
    → AreAlike (next_record default_config s fields field xs) (next_record default_config s fields field (cut_from place xs))
unfolding next_record cut_from
next_alike s fields field [] place h = same_end (ends_at_end s) (fields ++ (field ∷ []))
next_alike s fields field (byte ∷ rest) place h =
    by_cut (is_cut place) refl (next_alike (step default_config s byte).0 (fields_after (step default_config s byte).1 fields field) (field_after (step default_config s byte).1 byte field) rest (after place byte))
  where
    q : State × Action
    q = step default_config s byte

    next : List ℕ → Option Read
    next xs = next_record default_config q.0 (fields_after q.1 fields field) (field_after q.1 byte field) xs

    left : List ℕ
    left = cut_from (after place byte) rest

    led : LeadsTo (length fields) q (after place byte)
    led = leads s (length fields) place byte h

    by_end : (b : Bool) → is_end q.1 ≡ b → (IsAt q.0 (length (fields_after q.1 fields field)) (after place byte) → AreAlike (next rest) (next left))
        → AreAlike (cond b (Some (fields_after q.1 fields field, q.0, rest)) (next rest)) (cond b (Some (fields_after q.1 fields field, q.0, left)) (next left))
    by_end true e more = let start = at_start (length fields) q (after place byte) e led in inl (refl, refl, ap (λ (here : LogPlace). cut_from here rest) start.0, start.1)
    by_end false e more = more (still_represents s fields field byte q (after place byte) e led)

    by_cut : (b : Bool) → is_cut place ≡ b → (IsAt q.0 (length (fields_after q.1 fields field)) (after place byte) → AreAlike (next rest) (next left))
        → AreAlike (next_record default_config s fields field (byte ∷ rest)) (next_record default_config s fields field (cond b [] (byte ∷ left)))
    by_cut true e more =
        let three : 3 ≤ place.ended = three_ended place e in
        let few : 3 ≤ length fields = omega (arith, three, ended_is s (length fields) place h) in
        both_long _ _ (long_record s fields field (byte ∷ rest) place h few) (long_record s fields field [] place h few)
    by_cut false e more = by_end (is_end q.1) refl more

-- the records of a text, and of what is left of it by the cut: the same, up to two long ones
abbrev pub RowsAlike : List Record → List Record → Type 0
RowsAlike [] [] = ⊤
RowsAlike [] (b ∷ more) = ⊥
RowsAlike (a ∷ more) [] = ⊥
RowsAlike (a ∷ more) (b ∷ others) = ((a ≡ b) × RowsAlike more others) ⊎ (IsLong a × IsLong b)

-- one record more
one_more : (a b : Record) (p q : Read) (more others : List Record) → a ≡ p.0 → b ≡ q.0 → AreRecords default_config q.1 q.2 others → AreAlike (Some p) (Some q)
    → (IsAt p.1 0 record_start → AreRecords default_config p.1 (cut_from record_start p.2) others → RowsAlike more others) → RowsAlike (a ∷ more) (b ∷ others)
one_more a b p q more others e f rest (inl h) go = inl (e ∙ h.0 ∙ sym f, go h.3 (rw (h.1, ← h.2) rest))
one_more a b p q more others e f rest (inr h) go = inr (rw e h.0, rw f h.1)

-- all records
rows_alike : (s : State) (xs : List ℕ) (rows others : List Record) → IsAt s 0 record_start → AreRecords default_config s xs rows → AreRecords default_config s (cut_from record_start xs) others → RowsAlike rows others
unfolding Reached
rows_alike s xs [] [] h r u = tt
rows_alike s xs [] (b ∷ others) h r u =
    let none : next_record default_config s [] [] xs ≡ None = rw (r.2.0, r.2.1) r.3 in
    let alike = next_alike s [] [] xs record_start h in
    absurd (rw (none, u.2.1) at alike)
rows_alike s xs (a ∷ more) [] h r u =
    let none : next_record default_config s [] [] (cut_from record_start xs) ≡ None = rw (u.2.0, u.2.1) u.3 in
    let alike = next_alike s [] [] xs record_start h in
    absurd (rw (r.2.1, none) at alike)
rows_alike s xs (a ∷ more) (b ∷ others) h r u =
    let alike = next_alike s [] [] xs record_start h in
    let both : AreAlike (Some r.2.0) (Some u.2.0) = rw (r.2.1, u.2.1) at alike in
    one_more a b r.2.0 u.2.0 more others r.2.2 u.2.2 (u.0, u.1, u.2.3, u.3) both (λ start rest. rows_alike r.2.0.1 r.2.0.2 more others start (r.0, r.1, r.2.3, r.3) rest)

-- a long record is not a row
long_refused : (fields : Record) (number : ℕ) (last : Option ℕ) → IsLong fields → row_of_fields number last fields ≡ Err 601
long_refused [] number last h = absurd (omega (arith, h))
long_refused (a ∷ []) number last h = absurd (omega (arith, h))
long_refused (a ∷ b ∷ []) number last h = absurd (omega (arith, h))
long_refused (a ∷ b ∷ c ∷ []) number last h = absurd (omega (arith, h))
long_refused (a ∷ b ∷ c ∷ d ∷ more) number last h = refl

-- nor is it the first row
long_not_first : (fields : Record) → IsLong fields → has_fields first_row fields ≡ false
long_not_first [] h = refl
long_not_first (a ∷ []) h = absurd (omega (arith, h))
long_not_first (a ∷ b ∷ []) h = absurd (omega (arith, h))
long_not_first (a ∷ b ∷ c ∷ []) h = absurd (omega (arith, h))
long_not_first (a ∷ b ∷ c ∷ d ∷ more) h = none (bytes_eq (codes "ms") a) (bytes_eq (codes "kind") b) (bytes_eq (codes "data") c)
  where
    none : (x y z : Bool) → (x && (y && (z && false))) ≡ false
    none true true true = refl
    none other another third = refl

-- at a long record the log ends, whatever follows
ends_alike : (before : List Record) (a b : Record) (x y : LogOf) → IsLong a → IsLong b → log_with before (row_of before a) x ≡ log_with before (row_of before b) y
ends_alike before a b x y h k =
    rw (long_refused a (suc (length before)) (last_moment before) h, long_refused b (suc (length before)) (last_moment before) k) (full (nat_lt most_rows (suc (length before))))
  where
    full : (f : Bool) → log_with before (cond f (Err 607) (Err 601)) x ≡ log_with before (cond f (Err 607) (Err 601)) y
    full true = refl
    full false = refl

-- so after the first row
after_alike : (before rows others : List Record) → RowsAlike rows others → log_after before rows ≡ log_after before others
after_alike before [] [] h = refl
after_alike before [] (b ∷ others) h = absurd h
after_alike before (a ∷ more) [] h = absurd h
after_alike before (a ∷ more) (b ∷ others) (inl h) = rw h.0 (ap (log_with before (row_of before b)) (after_alike (b ∷ before) more others h.1))
after_alike before (a ∷ more) (b ∷ others) (inr h) = ends_alike before a b _ _ h.0 h.1

-- and of the whole log
log_alike : (rows others : List Record) → RowsAlike rows others → log_of rows ≡ log_of others
log_alike [] [] h = refl
log_alike [] (b ∷ others) h = absurd h
log_alike (a ∷ more) [] h = absurd h
log_alike (a ∷ more) (b ∷ others) (inl h) = rw h.0 (ap (λ (log : LogOf). cond (has_fields first_row b) log (refused_at 601 1)) (after_alike (b ∷ []) more others h.1))
log_alike (a ∷ more) (b ∷ others) (inr h) = rw (long_not_first a h.0, long_not_first b h.1) refl

-- the log of a text with no byte order mark
pub same_log : (bytes : List ℕ) → log_of (records default_config (cut_from record_start bytes)) ≡ log_of (records default_config bytes)
same_log bytes =
    sym (log_alike _ _ (rows_alike st.StartRecord bytes _ _ (refl, refl) (records_are_all default_config bytes) (records_are_all default_config (cut_from record_start bytes))))
