-- The report of a text's units, one unit after the other.
use Rattle.wc_model.proofs.Common.{◌≡◌, ℕ, zero, suc, Bool, ◌+◌, ◌≤◌, List, [], ◌∷◌, ◌++◌, map, length, drop, refl, ap, sym, ◌∙◌, subst, append_assoc, append-nil, arith, none-some, same_Some}
use Rattle.std.specs.Prelude.{Some, IfSome, option_map, slice_get}
use Rattle.wc_controller.specs.Checking.{AreLinesAt}
use Rattle.wc_model.specs.Language.Checks.{Position, positions_after, positions_of}
use Rattle.wc_model.specs.Definitions.{ProgramUnit, Text, AreUnitLines, IsBoundOf, IsPathPart, IsUnitReport, unit_line}

-- the units at these positions are the text's
items_at : (before units : List ProgramUnit) → map (λ position. position.item) (positions_after before units) ≡ units
items_at before [] = refl
items_at before (unit ∷ units) = ap (λ l. unit ∷ l) (items_at (unit ∷ before) units)

-- the lines of one unit, before the lines of those after it
one_unit : (paths : Bool) (positions : List (Position ProgramUnit)) (place : ℕ) (name : List ℕ) (bound : ℕ) (part others : List ℕ) →
    option_map (λ unit. unit.spelled) (slice_get (map (λ position. position.item) positions) place) ≡ Some name →
    IfSome (slice_get positions place) (λ position. IsBoundOf position bound) → IfSome (slice_get positions place) (λ position. IsPathPart paths position part) →
    AreUnitLines paths (drop (suc place) positions) others → AreUnitLines paths (drop place positions) ((unit_line name bound ++ part) ++ others)
one_unit paths [] place name bound part others spelled is_bound is_part rest = absurd (none-some name spelled)
one_unit paths (position ∷ positions) zero name bound part others spelled is_bound is_part rest =
    (bound, part, others, is_bound, is_part, rest, ap (λ n. (unit_line n bound ++ part) ++ others) (sym (same_Some position.item.spelled name spelled)))
one_unit paths (position ∷ positions) (suc place) name bound part others spelled is_bound is_part rest = one_unit paths positions place name bound part others spelled is_bound is_part rest

-- whatever are the lines of the units from a place on, after these they are the report
abbrev pub Begins : Bool → Text → ℕ → List ℕ → Type 0
Begins paths text place lines = (others : List ℕ) → AreUnitLines paths (drop place (positions_of text)) others → IsUnitReport paths text (lines ++ others)

-- one unit more
pub begins_on : (paths : Bool) (text : Text) (place : ℕ) (lines more : List ℕ) → Begins paths text place lines → AreLinesAt paths text place more → Begins paths text (place + 1) (lines ++ more)
begins_on paths text place lines more h l = λ others rest.
    let spelled = subst (λ units. option_map (λ unit. unit.spelled) (slice_get units place) ≡ Some l.name) (sym (items_at [] text)) l.spelled in
    let next : place + 1 ≡ suc place = omega arith in
    let following = subst (λ n. AreUnitLines paths (drop n (positions_of text)) others) next rest in
    subst (IsUnitReport paths text) (ap (λ t. lines ++ (t ++ others)) (sym l.lines_are) ∙ sym (append_assoc lines more others))
    (h ((unit_line l.name l.bound ++ l.part) ++ others) (one_unit paths (positions_of text) place l.name l.bound l.part others spelled l.is_bound l.is_part following))

-- after the last unit there is nothing
none_left : (paths : Bool) (positions : List (Position ProgramUnit)) (place : ℕ) → length positions ≤ place → AreUnitLines paths (drop place positions) []
none_left paths [] zero h = refl
none_left paths [] (suc place) h = refl
none_left paths (position ∷ positions) zero h = absurd (omega arith)
none_left paths (position ∷ positions) (suc place) h = none_left paths positions place (omega arith)

-- as many positions as units
length_positions : (before units : List ProgramUnit) → length (positions_after before units) ≡ length units
length_positions before [] = refl
length_positions before (unit ∷ units) = ap suc (length_positions (unit ∷ before) units)

pub begins_to_end : (paths : Bool) (text : Text) (place : ℕ) (lines : List ℕ) → length text ≤ place → Begins paths text place lines → IsUnitReport paths text lines
begins_to_end paths text place lines e h =
    subst (IsUnitReport paths text) (append-nil lines) (h [] (none_left paths (positions_of text) place (omega (arith, e, length_positions [] text))))
