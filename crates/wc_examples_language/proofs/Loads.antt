-- A program of n lines `LD TRUE`.
use Rattle.std.proofs.Common.{◌≡◌, ◌≤◌, ℕ, zero, suc, [], ◌∷◌, refl, sym, inl, inr, append-nil, arith}
use Rattle.std.specs.Prelude.{codes, None}
use Rattle.wc_model.specs.Definitions.{End, line_count, depth, IsWithinLimits, InBody, lines, Position, at_line, at_instruction, IsRaised, TooMany}
use Rattle.wc_laws_grammar.proofs.Languages.{next, pass, more, regroup}
use Rattle.wc_examples_language.specs.{ident, end_of, program_of, load_true, loads, load_lines, program_of_loads}

-- the tokens spell the lines
spelled_lines : (line n : ℕ) → lines InBody (load_lines line n) (loads line n)
spelled_lines line zero = tt
spelled_lines line (suc n) = (tt, pass tt (pass refl (regroup (next (refl, refl) (next (inr refl) (next refl (spelled_lines (suc line) n)))))))

-- also after the end of the first line
after_name : (n : ℕ) → lines InBody (load_lines 2 n) (end_of 1 ∷ loads 2 n)
after_name zero = (refl, tt)
after_name (suc n) = let h = spelled_lines 2 (suc n) in (h.0, more refl h.1)

-- after them a line starts
abbrev after_loads : ℕ → Position
after_loads n = record { before = []; unit = program_of End; openings = []; done = load_lines 2 n }

at_start : (n : ℕ) → at_line (after_loads n) (program_of_loads n)
at_start n = pass (pass refl tt) (regroup (next (refl, refl) (regroup (next (refl, refl, refl) (pass ([], refl, refl) (pass refl (after_name n)))))))

-- as many lines as are asked for
lines_of_loads : (line n : ℕ) → line_count (load_lines line n) ≡ n
lines_of_loads line zero = refl
lines_of_loads line (suc n) = let h : line_count (load_lines (suc line) n) ≡ n = lines_of_loads (suc line) n in omega arith

depth_of_loads : (line n : ℕ) → depth (load_lines line n) ≡ 0
depth_of_loads line zero = refl
depth_of_loads line (suc n) = depth_of_loads (suc line) n

-- one more is too many
pub one_too_many : (n line : ℕ) → 1024 ≤ n → IsRaised TooMany (program_of_loads n) (ident (codes "LD") line ∷ ident (codes "TRUE") line ∷ []) line line
one_too_many n line many =
    let h : line_count (load_lines 2 n) ≡ n = lines_of_loads 2 n in
    let at : at_instruction (after_loads n) None (program_of_loads n)
    = record { prefix = program_of_loads n; rest = []; whole = sym (append-nil _); begins = at_start n; goes_on = refl } in
    (inr (inl (after_loads n, None, at, omega arith, ((load_true, refl), λ e k. cc))), refl)

-- as many as may be
pub not_too_many : (n : ℕ) → n ≤ 1024 → IsWithinLimits (program_of (load_lines 2 n) ∷ [])
not_too_many n few =
    let h : line_count (load_lines 2 n) ≡ n = lines_of_loads 2 n in
    let d : depth (load_lines 2 n) ≡ 0 = depth_of_loads 2 n in
    record { units = omega arith; bodies = (record { lines = omega arith; depth_of_body = omega arith }, tt) }
