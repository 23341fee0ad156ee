-- A prefix of a text leaves a prefix of what the text leaves, once the lines that begin with an S are taken out of both.
use Rattle.std.proofs.Common.{◌≡◌, ℕ, ◌==◌, Bool, true, false, not, cond, if◌then◌else◌, List, [], ◌∷◌, ◌++◌, refl, ap, sym, ◌∙◌}
use Rattle.wc_model.proofs.Common.{filter, concat}
use Rattle.wc_model.specs.Run.JobSections.{onto_first_line, whole_lines}
use Rattle.wc_laws_instrument.specs.Logs.{begins_with_s, without_scan_lines}

-- whether a line stays
abbrev stays : List ℕ → Bool
stays line = not (begins_with_s line)

-- what some lines leave
abbrev left : List (List ℕ) → List ℕ
left lines = concat (filter stays lines)

-- what they leave if the first is the rest of a line that stays, or of one that goes
abbrev left_in_kept : List (List ℕ) → List ℕ
left_in_kept [] = []
left_in_kept (line ∷ lines) = line ++ left lines

abbrev left_in_dropped : List (List ℕ) → List ℕ
left_in_dropped [] = []
left_in_dropped (line ∷ lines) = left lines

-- a line feed ends its line, and any other byte belongs to the line after it
ends : (byte : ℕ) (text : List ℕ) → (byte == 10) ≡ true → whole_lines (byte ∷ text) ≡ (10 ∷ []) ∷ whole_lines text
ends byte text e = ap (λ b. if b then (10 ∷ []) ∷ whole_lines text else onto_first_line byte (whole_lines text)) e

begins : (byte : ℕ) (text : List ℕ) → (byte == 10) ≡ false → whole_lines (byte ∷ text) ≡ onto_first_line byte (whole_lines text)
begins byte text e = ap (λ b. if b then (10 ∷ []) ∷ whole_lines text else onto_first_line byte (whole_lines text)) e

-- a line that begins with an S goes, and any other stays
goes_away : (byte : ℕ) → (byte == 83) ≡ true → (lines : List (List ℕ)) → left (onto_first_line byte lines) ≡ left_in_dropped lines
goes_away byte s [] = ap (λ b. concat (cond (not b) ((byte ∷ []) ∷ []) [])) s
goes_away byte s (line ∷ lines) = ap (λ b. concat (cond (not b) ((byte ∷ line) ∷ filter stays lines) (filter stays lines))) s

stays_there : (byte : ℕ) → (byte == 83) ≡ false → (lines : List (List ℕ)) → left (onto_first_line byte lines) ≡ byte ∷ left_in_kept lines
stays_there byte s [] = ap (λ b. concat (cond (not b) ((byte ∷ []) ∷ []) [])) s
stays_there byte s (line ∷ lines) = ap (λ b. concat (cond (not b) ((byte ∷ line) ∷ filter stays lines) (filter stays lines))) s

one_more_kept : (byte : ℕ) (lines : List (List ℕ)) → left_in_kept (onto_first_line byte lines) ≡ byte ∷ left_in_kept lines
one_more_kept byte [] = refl
one_more_kept byte (line ∷ lines) = refl

one_more_dropped : (byte : ℕ) (lines : List (List ℕ)) → left_in_dropped (onto_first_line byte lines) ≡ left_in_dropped lines
one_more_dropped byte [] = refl
one_more_dropped byte (line ∷ lines) = refl

-- what the text leaves goes on to what it leaves with more after it
abbrev GoesOn : (List (List ℕ) → List ℕ) → List ℕ → List ℕ → Type 0
GoesOn leaves text more = (rest : List ℕ) × (leaves (whole_lines (text ++ more)) ≡ leaves (whole_lines text) ++ rest)

-- so it does at the start of a line, in one that stays, and in one that goes
record GoOn (text more : List ℕ) : Type 0 where
  start : GoesOn left text more
  in_kept : GoesOn left_in_kept text more
  in_dropped : GoesOn left_in_dropped text more

-- of both sides something is known: what comes before and what is known of the rest
joined : (leaves inner : List (List ℕ) → List ℕ) (byte : ℕ) (text more : List ℕ) (before : List ℕ → List ℕ) →
    ((t : List ℕ) → leaves (whole_lines (byte ∷ t)) ≡ before (inner (whole_lines t))) →
    ((x y : List ℕ) → before (x ++ y) ≡ before x ++ y) → GoesOn inner text more → GoesOn leaves (byte ∷ text) more
joined leaves inner byte text more before is moves (rest, on) =
    (rest, is (text ++ more) ∙ ap before on ∙ moves (inner (whole_lines text)) rest ∙ ap (λ x. x ++ rest) (sym (is text)))

-- one byte more, by what it is
one_more : (byte : ℕ) (text more : List ℕ) (feeds : Bool) → (byte == 10) ≡ feeds → (drops : Bool) → (byte == 83) ≡ drops → GoOn text more → GoOn (byte ∷ text) more
one_more byte text more true e drops s on = record {
  start = joined left left byte text more (λ x. 10 ∷ x) (λ t. ap left (ends byte t e)) (λ x y. refl) on.start;
  in_kept = joined left_in_kept left byte text more (λ x. 10 ∷ x) (λ t. ap left_in_kept (ends byte t e)) (λ x y. refl) on.start;
  in_dropped = joined left_in_dropped left byte text more (λ x. x) (λ t. ap left_in_dropped (ends byte t e)) (λ x y. refl) on.start;
}
one_more byte text more false e true s on = record {
  start = joined left left_in_dropped byte text more (λ x. x) (λ t. ap left (begins byte t e) ∙ goes_away byte s (whole_lines t)) (λ x y. refl) on.in_dropped;
  in_kept = joined left_in_kept left_in_kept byte text more (λ x. byte ∷ x) (λ t. ap left_in_kept (begins byte t e) ∙ one_more_kept byte (whole_lines t)) (λ x y. refl) on.in_kept;
  in_dropped = joined left_in_dropped left_in_dropped byte text more (λ x. x) (λ t. ap left_in_dropped (begins byte t e) ∙ one_more_dropped byte (whole_lines t)) (λ x y. refl) on.in_dropped;
}
one_more byte text more false e false s on = record {
  start = joined left left_in_kept byte text more (λ x. byte ∷ x) (λ t. ap left (begins byte t e) ∙ stays_there byte s (whole_lines t)) (λ x y. refl) on.in_kept;
  in_kept = joined left_in_kept left_in_kept byte text more (λ x. byte ∷ x) (λ t. ap left_in_kept (begins byte t e) ∙ one_more_kept byte (whole_lines t)) (λ x y. refl) on.in_kept;
  in_dropped = joined left_in_dropped left_in_dropped byte text more (λ x. x) (λ t. ap left_in_dropped (begins byte t e) ∙ one_more_dropped byte (whole_lines t)) (λ x y. refl) on.in_dropped;
}

all_go_on : (text more : List ℕ) → GoOn text more
all_go_on [] more = record {
  start = (left (whole_lines more), refl);
  in_kept = (left_in_kept (whole_lines more), refl);
  in_dropped = (left_in_dropped (whole_lines more), refl);
}
all_go_on (byte ∷ text) more = one_more byte text more (byte == 10) refl (byte == 83) refl (all_go_on text more)

pub cut_lines_leave_a_prefix : (text more : List ℕ) → (rest : List ℕ) × (without_scan_lines (text ++ more) ≡ without_scan_lines text ++ rest)
cut_lines_leave_a_prefix text more = (all_go_on text more).start
