-- A text parted at a heading, as far as its lines are read.
use Rattle.std.proofs.Common.{◌≡◌, ◌<◌, ◌++◌, ℕ, ◌+◌, false, codes, List, [], ◌∷◌, length, drop, take, Option, Some, None, if◌then◌else◌, refl, sym, ap, ◌∙◌, arith, append_assoc, length-append}
use Rattle.wc_laws_instrument.proofs.JobParts.{lines_whole}
use Rattle.wc_job.specs.Views.{BeginsWithLine}
use Rattle.wc_model.specs.Run.JobSections.{Parted, Sections, is_heading, part_at, sections_with_log, sections_with_next, sections_with_program, whole_lines, with_line}

-- what is found is what is found after the bytes that are read
abbrev pub IsFoundFrom : List ℕ → List ℕ → ℕ → Type 0
IsFoundFrom word text start =
    part_at word (whole_lines text) ≡ with_line (take start text) (part_at word (whole_lines (drop start text)))

-- two parts before it
with_both : (a b : List ℕ) (parted : Option Parted) → with_line a (with_line b parted) ≡ with_line (a ++ b) parted
with_both a b None = refl
with_both a b (Some parted) = ap (λ s. Some (record { section = s; rest = parted.rest })) (sym (append_assoc a b parted.section))

-- the first line is not a heading
passed_line : (word rest line after : List ℕ) → 0 < length rest → BeginsWithLine rest line after → is_heading word line ≡ false → part_at word (whole_lines rest) ≡ with_line line (part_at word (whole_lines after))
passed_line word [] line after some h other = absurd (omega arith)
passed_line word (byte ∷ rest) line after some h other =
    ap (part_at word) h.0 ∙ ap (λ v. if v then Some (record { section = []; rest = whole_lines after }) else with_line line (part_at word (whole_lines after))) other

-- a list cut after its prefix
cut_after : (prefix after : List ℕ) → (take (length prefix) (prefix ++ after) ≡ prefix) × (drop (length prefix) (prefix ++ after) ≡ after)
cut_after [] after = (refl, refl)
cut_after (x ∷ xs) after = let more = cut_after xs after in (ap (λ l. x ∷ l) more.0, more.1)

-- after one more line
pub found_further : (word text before rest line after : List ℕ) (start : ℕ) → IsFoundFrom word text start → before ≡ take start text → rest ≡ drop start text → length before ≡ start → text ≡ before ++ rest → rest ≡ line ++ after → 0 < length rest → BeginsWithLine rest line after → is_heading word line ≡ false → IsFoundFrom word text (start + length line)
found_further word text before rest line after start so e f long whole cut some h other =
    let prefix : text ≡ (before ++ line) ++ after = whole ∙ ap (λ r. before ++ r) cut ∙ sym (append_assoc before line after) in
    let count : start + length line ≡ length (before ++ line) = omega (arith, length-append before line, long) in
    let parts = cut_after (before ++ line) after in
    let taken : take (start + length line) text ≡ before ++ line = rw (count, prefix) parts.0 in
    let left : drop (start + length line) text ≡ after = rw (count, prefix) parts.1 in
    so
    ∙ ap (λ r. with_line (take start text) (part_at word (whole_lines r))) (sym f)
    ∙ ap (λ b. with_line b (part_at word (whole_lines rest))) (sym e)
    ∙ ap (with_line before) (passed_line word rest line after some h other)
    ∙ with_both before line (part_at word (whole_lines after))
    ∙ ap (λ b. with_line b (part_at word (whole_lines after))) (sym taken)
    ∙ ap (λ r. with_line (take (start + length line) text) (part_at word (whole_lines r))) (sym left)

-- both headings after the first one
pub both_found : (lines : List (List ℕ)) (plate middle between log : List ℕ) (found : Sections) → Some (record { section = plate; rest = whole_lines middle }) ≡ part_at (codes "@program") lines → Some (record { section = between; rest = whole_lines log }) ≡ part_at (codes "@log") (whole_lines middle) → found ≡ sections_with_next plate between log (part_at (codes "@next") (whole_lines between)) → Some found ≡ sections_with_program (part_at (codes "@program") lines)
both_found lines plate middle between log found first second e =
    ap (λ s. Some s) e
    ∙ ap (λ l. Some (sections_with_next plate between l (part_at (codes "@next") (whole_lines between)))) (sym (lines_whole log))
    ∙ ap (sections_with_log plate) second
    ∙ ap sections_with_program first

-- the next program after its heading
pub next_found : (plate between program next log : List ℕ) → Some (record { section = program; rest = whole_lines next }) ≡ part_at (codes "@next") (whole_lines between) → record { plate = plate; program = program; next = Some next; log = log } ≡ sections_with_next plate between log (part_at (codes "@next") (whole_lines between))
next_found plate between program next log e =
    ap (λ n. record { plate = plate; program = program; next = Some n; log = log }) (sym (lines_whole next))
    ∙ ap (sections_with_next plate between log) e
