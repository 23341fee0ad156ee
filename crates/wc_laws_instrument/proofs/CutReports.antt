-- Reports of a log that is cut, with a program.
use Rattle.std.proofs.Common.{◌≡◌, ℕ, zero, suc, ◌<◌, List, [], ◌∷◌, ◌++◌, map, refl, ap, sym, subst, ◌∙◌}
use Rattle.std.specs.Prelude.{⊤, ℤ, Option, Some, None, codes, replicate}
use Rattle.wc_laws_instrument.proofs.Changes.{from_state}
use Rattle.wc_laws_instrument.proofs.CutLogs.{pasts_brought}
use Rattle.wc_laws_instrument.proofs.SameLines.{ArePastsAlike, alike_row, answers_alike, first_of, image_alike, rest_of}
use Rattle.wc_laws_instrument.specs.Changes.{lines_at, lines_from}
use Rattle.wc_laws_instrument.specs.Preludes.{ReportsCanBeCut, brought_by, input_rows, load_rows, past_after, prelude_of, request_rows, scale_state, timed}
use Rattle.wc_model.specs.Definitions.{PlateData, Bytes, Change, Counts, Inputs, LogRow, Past, RowData, Scan, Program, answer_line, scan_line, state_after, state_with}

-- a row that the program does not take part in
abbrev IsQuiet : RowData → Type 0
IsQuiet (Counts counts) = ⊤
IsQuiet (Bytes bytes) = ⊤
IsQuiet (Inputs inputs) = ⊤
IsQuiet Scan = ⊥
IsQuiet Change = ⊥

abbrev AreQuiet : List RowData → Type 0
AreQuiet [] = ⊤
AreQuiet (row ∷ rows) = IsQuiet row × AreQuiet rows

quiet_append : (xs ys : List RowData) → AreQuiet xs → AreQuiet ys → AreQuiet (xs ++ ys)
quiet_append [] ys first second = second
quiet_append (row ∷ xs) ys first second = (first.0, quiet_append xs ys first.1 second)

-- no row of a prelude is one with which the program does anything
quiet_again : (n : ℕ) (counts : ℤ) → AreQuiet (replicate n (Counts counts))
quiet_again zero counts = tt
quiet_again (suc n) counts = (tt, quiet_again n counts)

quiet_samples : (xs : List ℤ) → AreQuiet (map Counts xs)
quiet_samples [] = tt
quiet_samples (x ∷ xs) = (tt, quiet_samples xs)

quiet_load : (n : ℕ) (letter : List ℕ) (load : Option ℤ) → AreQuiet (load_rows n letter load)
quiet_load n letter None = tt
quiet_load n letter (Some counts) = quiet_append (replicate n (Counts counts)) _ (quiet_again n counts) (tt, tt)

quiet_inputs : (inputs : ℕ) → AreQuiet (input_rows inputs)
quiet_inputs zero = tt
quiet_inputs (suc inputs) = (tt, tt)

quiet_request : (o : Option (List ℕ)) → AreQuiet (request_rows o)
quiet_request None = tt
quiet_request (Some text) = (tt, tt)

quiet_prelude : (p : PlateData) (past : Past) → AreQuiet (prelude_of p.window (scale_state p past))
quiet_prelude p past =
    let zero_part : List RowData = load_rows p.window (codes "Z") (scale_state p past).zero in
    let tare_part : List RowData = load_rows p.window (codes "T") (scale_state p past).tare in
    let samples_part : List RowData = map Counts (scale_state p past).window in
    let inputs_part : List RowData = input_rows (scale_state p past).inputs in
    quiet_append (zero_part ++ tare_part ++ samples_part ++ inputs_part) (request_rows (scale_state p past).request)
    (quiet_append (zero_part ++ tare_part ++ samples_part) inputs_part
    (quiet_append (zero_part ++ tare_part) samples_part
    (quiet_append zero_part tare_part (quiet_load p.window (codes "Z") (scale_state p past).zero) (quiet_load p.window (codes "T") (scale_state p past).tare))
    (quiet_samples (scale_state p past).window))
    (quiet_inputs (scale_state p past).inputs))
    (quiet_request (scale_state p past).request)

module _ {State : Type 0} (p : PlateData) (program : Program State) where
  -- such rows leave the program's state
  quiet_with : (brings : RowData) (ms : ℕ) (past : Past) (state : State) → IsQuiet brings → state_with p program brings ms past state ≡ state
  quiet_with (Counts counts) ms past state quiet = refl
  quiet_with (Bytes bytes) ms past state quiet = refl
  quiet_with (Inputs inputs) ms past state quiet = refl
  quiet_with Scan ms past state quiet = absurd quiet
  quiet_with Change ms past state quiet = absurd quiet

  quiet_state : (start : State) (past : Past) (rows : List LogRow) → AreQuiet (brought_by rows) →
      state_after p program start (past_after past rows) ≡ state_after p program start past
  quiet_state start past [] quiet = refl
  quiet_state start past (row ∷ rows) quiet =
      quiet_state start (row ∷ past) rows quiet.1 ∙ quiet_with row.brings row.ms past (state_after p program start past) quiet.0

  module _ (some : 0 < p.window) where
    -- the lines of a row and what it leaves, after pasts that are alike
    same_at : (brings : RowData) (number number' ms : ℕ) (state : State) (past past' : Past) → ArePastsAlike p some past past' →
        lines_at p program state brings past' (record { number = number'; ms = ms; brings = brings })
        ≡ lines_at p program state brings past (record { number = number; ms = ms; brings = brings })
    same_at (Counts counts) number number' ms state past past' alike = refl
    same_at (Bytes bytes) number number' ms state past past' alike = ap (answer_line ms) (answers_alike p some (Bytes bytes) past past' alike)
    same_at (Inputs inputs) number number' ms state past past' alike = refl
    same_at Scan number number' ms state past past' alike = ap (λ image. scan_line ms (program.scan state image ms)) (image_alike p some past past' alike)
    same_at Change number number' ms state past past' alike = refl

    same_left : (brings : RowData) (ms : ℕ) (state : State) (past past' : Past) → ArePastsAlike p some past past' →
        state_with p program brings ms past' state ≡ state_with p program brings ms past state
    same_left (Counts counts) ms state past past' alike = refl
    same_left (Bytes bytes) ms state past past' alike = refl
    same_left (Inputs inputs) ms state past past' alike = refl
    same_left Scan ms state past past' alike = ap (λ image. (program.scan state image ms).after) (image_alike p some past past' alike)
    same_left Change ms state past past' alike = refl

    same_lines : (state : State) (past past' : Past) (rows others : List LogRow) → timed others ≡ timed rows → ArePastsAlike p some past past' →
        lines_from p program state past' others ≡ lines_from p program state past rows
    same_lines state past past' [] [] e alike = refl
    same_lines state past past' [] (other ∷ others) e alike = absurd (cc)
    same_lines state past past' (row ∷ rows) [] e alike = absurd (cc)
    same_lines state past past' (row ∷ rows) (other ∷ others) e alike =
        let brings : other.brings ≡ row.brings = ap (λ l. (first_of {X = ℕ × RowData} (row.ms, row.brings) l).1) e in
        let time : other.ms ≡ row.ms = ap (λ l. (first_of {X = ℕ × RowData} (row.ms, row.brings) l).0) e in
        let here : lines_at p program state other.brings past' other ≡ lines_at p program state row.brings past row =
        (λ i. lines_at p program state (brings i) past' (record { number = other.number; ms = time i; brings = brings i }))
        ∙ same_at row.brings row.number other.number row.ms state past past' alike in
        let left : state_with p program other.brings other.ms past' state ≡ state_with p program row.brings row.ms past state =
        (λ i. state_with p program (brings i) (time i) past' state) ∙ same_left row.brings row.ms state past past' alike in
        (λ i. here i ++ lines_from p program (left i) (other ∷ past') others)
        ∙ ap (λ l. lines_at p program state row.brings past row ++ l)
        (same_lines (state_with p program row.brings row.ms past state) (row ∷ past) (other ∷ past') rows others (ap rest_of e)
        (alike_row p some past past' row other brings alike))

  -- reports of a log that is cut
  pub reports_can_be_cut : 0 < p.window → (past : Past) → ReportsCanBeCut p program past
  reports_can_be_cut some past = record {
    begins = λ start opening rows others e timed_alike.
        from_state p program start (past_after [] opening) others
        ∙ ap (λ state. lines_from p program state (past_after [] opening) others)
        (quiet_state start [] opening (subst AreQuiet (sym e) (quiet_prelude p past)))
        ∙ same_lines some start past (past_after [] opening) rows others timed_alike (pasts_brought p some past opening e);
    whole = λ start rows. from_state p program start past rows;
  }
