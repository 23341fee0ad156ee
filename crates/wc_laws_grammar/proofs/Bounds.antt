-- The limits on units, lines and depth, along the walk.
use Rattle.wc_model.proofs.Common.{◌≡◌, ◌≤◌, ◌+◌, ℕ, suc, List, [], ◌∷◌, length, ap, subst, sym, arith, AllByRecursion}
use Rattle.std.specs.Prelude.{max}
use Rattle.wc_laws_grammar.specs.{LineShape, LabelAlone, Instructs, Opens, OfOpening, LineState, Start, Worded, Labelled, Bracketed, Named, Pointed, BracketedWith, Ended, State, Outside, Unnamed, Declaring, AtLine, OnLine, Closed, after_closing, after_line, lines_and}
use Rattle.wc_model.specs.Definitions.{IsBodyWithinLimits, depth, line_count, lines_before, lines_opened, most_depth, most_lines, most_units, Opening, Position, Alone, End, Lines, Nested, Plain, ProgramUnit}

-- the number of lines a line counts that has come so far, or been
abbrev pub counted_shape : LineShape → ℕ
counted_shape (LabelAlone label) = 0
counted_shape _ = 1

abbrev pub counted : LineState → ℕ
counted Start = 0
counted (Worded label) = 0
counted (Labelled label) = 0
counted (Ended line_shape) = counted_shape line_shape
counted _ = 1

-- the number of parentheses it opens
abbrev pub opened_shape : LineShape → ℕ
opened_shape (Opens label line operator x) = 1
opened_shape _ = 0

abbrev pub opened : LineState → ℕ
opened (Bracketed started operator) = 1
opened (BracketedWith started operator x) = 1
opened (Named started (OfOpening operator) name) = 1
opened (Pointed started (OfOpening operator) name) = 1
opened (Ended line_shape) = opened_shape line_shape
opened _ = 0

-- no parenthesis is too deep
abbrev pub IsDeepEnough : List Opening → Lines → Type 0
IsDeepEnough [] ls = depth ls ≤ most_depth
IsDeepEnough (o ∷ outer) ls = (depth ls + suc (length outer) ≤ most_depth) × IsDeepEnough outer o.before

-- the units before are within the limits, and there is space for one more
abbrev pub HasCapacity : List ProgramUnit → Type 0
HasCapacity us = (suc (length us) ≤ most_units) × AllByRecursion IsBodyWithinLimits us

-- a position within the limits, if n more lines are counted and m more parentheses opened
abbrev pub PositionWithin : Position → (lines parentheses : ℕ) → Type 0
PositionWithin p l d = HasCapacity p.before × (lines_before p + l ≤ most_lines) × IsDeepEnough p.openings p.done × (length p.openings + d ≤ most_depth)

-- the limits hold so far
abbrev pub Within : State → Type 0
Within (Outside us) = (length us ≤ most_units) × AllByRecursion IsBodyWithinLimits us
Within (Unnamed us kind line) = HasCapacity us
Within (Declaring us unit section place) = HasCapacity us
Within (AtLine p) = PositionWithin p 0 0
Within (OnLine p line) = PositionWithin p (counted line) (opened line)
Within (Closed p) = PositionWithin p 0 0

count_after : (a b : Lines) → line_count (lines_and a b) ≡ line_count a + line_count b
count_after End b = omega arith
count_after (Alone label rest) b = count_after rest b
count_after (Plain label line step rest) b = let h = count_after rest b in omega (arith, h)
count_after (Nested label line operator x inside close rest) b = let h = count_after rest b in omega (arith, h)

depth_after : (a b : Lines) → depth (lines_and a b) ≡ max (depth a) (depth b)
depth_after End b = omega arith
depth_after (Alone label rest) b = depth_after rest b
depth_after (Plain label line step rest) b = depth_after rest b
depth_after (Nested label line operator x inside close rest) b = let h = depth_after rest b in omega (arith, h)

-- lines that are no deeper
deep_by : (openings : List Opening) (a b : Lines) → depth a ≤ depth b → IsDeepEnough openings b → IsDeepEnough openings a
deep_by [] a b le h = omega (arith, le, h)
deep_by (o ∷ outer) a b le h = (omega (arith, le, h.0), h.1)

-- a line that has come to its end is within the limits if its position is
pub ended_within : (p : Position) (line_shape : LineShape) → PositionWithin p (counted_shape line_shape) (opened_shape line_shape) → Within (AtLine (after_line p line_shape))
ended_within p (LabelAlone label) h =
    let c = count_after p.done (Alone label End) in
    let d = depth_after p.done (Alone label End) in
    (h.0, omega (arith, c, h.1), deep_by p.openings _ p.done (omega (arith, d)) h.2, h.3)
ended_within p (Instructs label line step) h =
    let c = count_after p.done (Plain label line step End) in
    let d = depth_after p.done (Plain label line step End) in
    (h.0, omega (arith, c, h.1), deep_by p.openings _ p.done (omega (arith, d)) h.2, h.3)
ended_within p (Opens label line operator x) h = (h.0, omega (arith, h.1), (omega (arith, h.3), h.2), omega (arith, h.3))

-- and the other way round
pub ended_was_within : (p : Position) (line_shape : LineShape) → Within (AtLine (after_line p line_shape)) → PositionWithin p (counted_shape line_shape) (opened_shape line_shape)
ended_was_within p (LabelAlone label) h =
    let c = count_after p.done (Alone label End) in
    let d = depth_after p.done (Alone label End) in
    (h.0, omega (arith, c, h.1), deep_by p.openings p.done _ (omega (arith, d)) h.2, h.3)
ended_was_within p (Instructs label line step) h =
    let c = count_after p.done (Plain label line step End) in
    let d = depth_after p.done (Plain label line step End) in
    (h.0, omega (arith, c, h.1), deep_by p.openings p.done _ (omega (arith, d)) h.2, h.3)
ended_was_within p (Opens label line operator x) h = (h.0, omega (arith, h.1), h.2.1, omega (arith, h.3))

-- a parenthesis that closes counts one line more
pub closed_within : (p : Position) (o : Opening) (outer : List Opening) (close : ℕ) → p.openings ≡ o ∷ outer → PositionWithin p 1 0 → PositionWithin (after_closing p o outer close) 0 0
closed_within p o outer close e h =
    let c = count_after o.before (Nested o.label o.line o.operator o.operand p.done close End) in
    let d = depth_after o.before (Nested o.label o.line o.operator o.operand p.done close End) in
    let l = ap lines_opened e in
    let k = subst (λ os. IsDeepEnough os p.done) e h.2 in
    let n = ap length e in
    (h.0, omega (arith, c, l, h.1), nested outer k d, omega (arith, n, h.3))
  where
    nested : (outer : List Opening) → IsDeepEnough (o ∷ outer) p.done → depth (lines_and o.before (Nested o.label o.line o.operator o.operand p.done close End)) ≡ max (depth o.before) (max (1 + depth p.done) 0)
        → IsDeepEnough outer (lines_and o.before (Nested o.label o.line o.operator o.operand p.done close End))
    nested [] k d = omega (arith, d, k.0, k.1)
    nested (i ∷ more) k d = (omega (arith, d, k.0, k.1.0), k.1.1)

pub closed_was_within : (p : Position) (o : Opening) (outer : List Opening) (close : ℕ) → p.openings ≡ o ∷ outer → PositionWithin (after_closing p o outer close) 0 0 → PositionWithin p 1 0
closed_was_within p o outer close e h =
    let c = count_after o.before (Nested o.label o.line o.operator o.operand p.done close End) in
    let d = depth_after o.before (Nested o.label o.line o.operator o.operand p.done close End) in
    let l = ap lines_opened e in
    let n = ap length e in
    let k = inside outer h.2 d in
    (h.0, omega (arith, c, l, h.1), subst (λ os. IsDeepEnough os p.done) (sym e) k, omega (arith, n, k.0))
  where
    inside : (outer : List Opening) → IsDeepEnough outer (lines_and o.before (Nested o.label o.line o.operator o.operand p.done close End)) → depth (lines_and o.before (Nested o.label o.line o.operator o.operand p.done close End)) ≡ max (depth o.before) (max (1 + depth p.done) 0)
        → IsDeepEnough (o ∷ outer) p.done
    inside [] k d = (omega (arith, d, k), omega (arith, d, k))
    inside (i ∷ more) k d = (omega (arith, d, k.0), (omega (arith, d, k.0), k.1))
