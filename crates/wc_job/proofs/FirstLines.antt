-- A text's lines from its first one on.
use Rattle.std.proofs.Common.{◌≡◌, ◌==◌, ℕ, suc, ◌+◌, min, true, false, cond, not, List, [], ◌∷◌, length, drop, take, if◌then◌else◌, refl, sym, ap, ◌∙◌, arith, length-take, subst}
use Rattle.wc_model.proofs.Common.{eqb-true, position_or_len}
use Rattle.wc_job.specs.Views.{BeginsWithLine, line_length}
use Rattle.wc_model.specs.Run.JobSections.{onto_first_line, whole_lines}

-- the length of the first line, from its first byte
length_on : (byte : ℕ) (rest : List ℕ) → line_length (byte ∷ rest) ≡ (if byte == 10 then 1 else suc (line_length rest))
length_on byte rest =
    elim (byte == 10) as (λ v. min (cond (not v) (1 + position_or_len (λ b. b == 10) rest) 0 + 1) (suc (length rest)) ≡ (if v then 1 else suc (line_length rest)))
    [ true ↦ omega arith | false ↦ omega arith ]

-- the lines of a text, cut after n bytes
abbrev IsCutAt : ℕ → List ℕ → ℕ → Type 0
IsCutAt byte rest count = whole_lines (byte ∷ rest) ≡ take count (byte ∷ rest) ∷ whole_lines (drop count (byte ∷ rest))

-- a line that is its LF alone
cut_at_once : (byte : ℕ) (rest : List ℕ) → (byte == 10) ≡ true → IsCutAt byte rest (line_length (byte ∷ rest))
cut_at_once byte rest e =
    let same : byte ≡ 10 = eqb-true byte 10 e in
    subst (IsCutAt byte rest) (sym (length_on byte rest ∙ ap (λ v. if v then 1 else suc (line_length rest)) e)) (rw same refl)

-- one more byte before the lines that follow
byte_before : (byte : ℕ) (rest : List ℕ) → (byte == 10) ≡ false → whole_lines (byte ∷ rest) ≡ onto_first_line byte (whole_lines rest)
byte_before byte rest e = ap (λ v. if v then (10 ∷ []) ∷ whole_lines rest else onto_first_line byte (whole_lines rest)) e

-- a line that goes on
cut_further : (byte : ℕ) (rest : List ℕ) → (byte == 10) ≡ false → IsCutAt byte rest (suc (line_length rest)) → IsCutAt byte rest (line_length (byte ∷ rest))
cut_further byte rest e more =
    subst (IsCutAt byte rest) (sym (length_on byte rest ∙ ap (λ v. if v then 1 else suc (line_length rest)) e)) more

-- the lines of a text, at the length of its first
first_of : (byte : ℕ) (rest : List ℕ) → IsCutAt byte rest (line_length (byte ∷ rest))
first_of byte [] =
    elim (byte == 10) as (λ v. (byte == 10) ≡ v → IsCutAt byte [] (line_length (byte ∷ [])))
    [ true ↦ λ e. cut_at_once byte [] e | false ↦ λ e. cut_further byte [] e (byte_before byte [] e) ] refl
first_of byte (next ∷ rest) =
    let further = first_of next rest in
    elim (byte == 10) as (λ v. (byte == 10) ≡ v → IsCutAt byte (next ∷ rest) (line_length (byte ∷ next ∷ rest))) [
      | true ↦ λ e. cut_at_once byte (next ∷ rest) e
      | false ↦ λ e. cut_further byte (next ∷ rest) e (byte_before byte (next ∷ rest) e ∙ ap (onto_first_line byte) further)
    ] refl

-- a text cut there
pub begins_with_line : (text line after : List ℕ) → line ≡ take (line_length text) text → after ≡ drop (line_length text) text → BeginsWithLine text line after
begins_with_line [] line after e f = (e, f)
begins_with_line (byte ∷ rest) line after e f =
    let long : length line ≡ min (line_length (byte ∷ rest)) (suc (length rest)) = ap length e ∙ length-take (line_length (byte ∷ rest)) (byte ∷ rest) in
    (first_of byte rest ∙ ap (λ l. l ∷ whole_lines (drop (line_length (byte ∷ rest)) (byte ∷ rest))) (sym e) ∙ ap (λ r. line ∷ whole_lines r) (sym f), omega (arith, long))
