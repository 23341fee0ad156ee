-- The step of CTU agrees with its history.
use Rattle.std.proofs.Common.{◌≡◌, ℕ, suc, ◌+◌, min, Bool, true, false, not, ◌&&◌, cond, List, [], ◌∷◌, ℤ, pos, ◌+ℤ◌, refl, sym, ap, ◌∙◌, arith}
use Rattle.std.specs.Prelude.{int_lt, int_le, count_by, if◌then◌else◌}
use Rattle.wc_model.proofs.Common.{nat_tests, sum_by-cons, take_while-cons}
use Rattle.wc_laws_language.specs.Laws.{ctu_call}
use Rattle.wc_model.specs.Definitions.{CtuFields, ctu_step, CtuCall, FitsCtu, first_or, is_rise, cus, is_reset, with_past, after_reset, edges}

-- an edge: TRUE now, and not before
pub is_rise-cons : (clk : Bool) (clks : List Bool) → is_rise (clk ∷ clks) ≡ (clk && not (first_or false clks))
is_rise-cons true [] = refl
is_rise-cons false [] = refl
is_rise-cons clk (before ∷ clks) = refl

-- one more, up to the greatest number
pub one_more : (n : ℕ) → (if int_lt (pos (min n 2147483647)) (pos 2147483647) then pos (min n 2147483647) +ℤ pos 1 else pos (min n 2147483647)) ≡ pos (min (suc n) 2147483647)
one_more n = grind (arith, nat_tests)

-- the count goes up at an edge
pub counted : (edge : Bool) (n : ℕ) → (if edge && int_lt (pos (min n 2147483647)) (pos 2147483647) then pos (min n 2147483647) +ℤ pos 1 else pos (min n 2147483647)) ≡ pos (min (if edge then suc n else n) 2147483647)
counted true n = one_more n
counted false n = refl

-- one more or none, as a sum adds it
pub added : (edge : Bool) (n : ℕ) → min (cond edge 1 0 + n) 2147483647 ≡ min (if edge then suc n else n) 2147483647
added true n = omega arith
added false n = omega arith

-- the edges after the last reset, not yet bounded
abbrev pub edge_count : List CtuCall → ℕ
edge_count calls = count_by (λ past. is_rise (cus past)) (after_reset calls)

-- the count of edges after a call that does not reset
pub edges-cons : (cu : Bool) (pv : ℤ) (calls : List CtuCall) → edges (record { cu = cu; r = false; pv = pv } ∷ calls) ≡ min (if cu && not (first_or false (cus calls)) then suc (edge_count calls) else edge_count calls) 2147483647
edges-cons cu pv calls =
    let c : CtuCall = record { cu = cu; r = false; pv = pv } in
    let rise = λ (past : List CtuCall). is_rise (cus past) in
    ap (λ pasts. min (count_by rise pasts) 2147483647) (take_while-cons (λ (past : List CtuCall). not (is_reset past)) (c ∷ calls) (with_past calls))
    ∙ (ap (λ n. min n 2147483647) (sum_by-cons (λ (past : List CtuCall). cond (is_rise (cus past)) 1 0) (c ∷ calls) (after_reset calls))
    ∙ (ap (λ edge. min (cond edge 1 0 + edge_count calls) 2147483647) (is_rise-cons cu (cus calls))
    ∙ added (cu && not (first_or false (cus calls))) (edge_count calls)))

-- CV after a call is the number of edges
pub ctu_cv : (r : Bool) (cu m : Bool) (pv cv : ℤ) (calls : List CtuCall) → cv ≡ pos (edges calls) → m ≡ first_or false (cus calls) → (if r then pos 0 else (if cu && not m && int_lt cv (pos 2147483647) then cv +ℤ pos 1 else cv)) ≡ pos (edges (record { cu = cu; r = r; pv = pv } ∷ calls))
ctu_cv true cu m pv cv calls count last =
    let c : CtuCall = record { cu = cu; r = true; pv = pv } in
    ap (λ pasts. pos (min (count_by (λ (past : List CtuCall). is_rise (cus past)) pasts) 2147483647)) (sym (take_while-cons (λ (past : List CtuCall). not (is_reset past)) (c ∷ calls) (with_past calls)))
ctu_cv false cu m pv cv calls count last =
    rw (count, last) (counted (cu && not (first_or false (cus calls))) (edge_count calls) ∙ ap pos (sym (edges-cons cu pv calls)))

pub ctu_fits : (calls : List CtuCall) (f : CtuFields) → FitsCtu calls f → FitsCtu (ctu_call f ∷ calls) (ctu_step f)
ctu_fits calls f h =
    let count = ctu_cv f.r f.cu f.m f.pv f.cv calls h.cv h.m in
    record { cv = count; q = ap (λ n. int_le f.pv n) count; m = refl }
