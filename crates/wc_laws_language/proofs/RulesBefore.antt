-- Texts that give no output out are checked by the rules by which they were.
use Rattle.std.proofs.Common.{◌≡◌, ℕ, List, [], ◌∷◌, ◌++◌, Option, is_some, refl, ap, ap₂}
use Rattle.std.specs.List.{flat_map}
use Rattle.wc_model.specs.Definitions.{body_rules, closing_checks, condition_checks, inside_rules, is_instance, label_rules, line_rules, members_called, opening_checks, rules_at_position, step_rules, Check, asks, positions_after, AloneLine, BodyLine, NestedLine, PlainLine, kind_after_operator, kind_after_step, kind_at, kind_following, label_of, lines_of, opening_kind, Scope, type_of}
use Rattle.wc_model.specs.Language.Tree.{Alone, Apply, Call, End, Jump, Lines, Load, Negate, Nested, Plain, ProgramUnit, Return, Step, Store}
use Rattle.wc_model.specs.declared.kind.Kind.{Kind}
use Rattle.wc_laws_language.proofs.Unchanged.{same_rules}
use Rattle.wc_laws_language.specs.{GivesNothingOut, StepGivesNothingOut, UnitsGiveNothingOut, body_rules_before, inside_rules_before, line_rules_before, rules_at_position_before, step_rules_before}

-- of a step
same_step_rules : (scope : Scope) (line : ℕ) (step : Step) (following : List BodyLine) (kind : Option Kind) → StepGivesNothingOut step → step_rules scope line step following kind ≡ step_rules_before scope line step following kind
same_step_rules scope line (Load negated operand) following kind g = refl
same_step_rules scope line (Store storing target) following kind g = refl
same_step_rules scope line (Apply operator operand) following kind g = refl
same_step_rules scope line Negate following kind g = refl
same_step_rules scope line (Jump condition label) following kind g = refl
same_step_rules scope line (Call condition instance arguments) following kind g =
    ap (λ (checks : List Check). asks 401 line (is_some (type_of scope instance)) ∷ asks 402 line (is_instance (type_of scope instance)) ∷ condition_checks condition line kind ++ checks)
    (same_rules scope line (members_called scope (type_of scope instance)) [] arguments g)
same_step_rules scope line (Return condition) following kind g = refl

-- of the lines inside a parenthesis
same_inside : (scope : Scope) (lines : Lines) (kind : Option Kind) → GivesNothingOut lines → inside_rules scope lines kind ≡ inside_rules_before scope lines kind
same_inside scope End kind g = refl
same_inside scope (Alone label rest) kind g = same_inside scope rest kind g
same_inside scope (Plain label line step rest) kind g =
    ap₂ (λ (a b : List Check). a ++ b) (same_step_rules scope line step [] kind g.0) (same_inside scope rest (kind_after_step scope step kind) g.1)
same_inside scope (Nested label line operator operand inside close rest) kind g =
    ap₂ (λ (a b : List Check). opening_checks scope line operator operand kind ++ a ++ closing_checks close kind (kind_following scope inside (opening_kind scope operand)) ++ b)
    (same_inside scope inside (opening_kind scope operand) g.0) (same_inside scope rest (kind_after_operator operator kind) g.1)

-- a line of a body gives nothing out
abbrev LineGivesNothingOut : BodyLine → Type 0
LineGivesNothingOut (AloneLine label) = Unit {0}
LineGivesNothingOut (PlainLine label line step) = StepGivesNothingOut step
LineGivesNothingOut (NestedLine label line operator operand inside close) = GivesNothingOut inside

-- and so do all of these
abbrev LinesGiveNothingOut : List BodyLine → Type 0
LinesGiveNothingOut [] = Unit {0}
LinesGiveNothingOut (line ∷ lines) = LineGivesNothingOut line × LinesGiveNothingOut lines

all_lines : (lines : Lines) → GivesNothingOut lines → LinesGiveNothingOut (lines_of lines)
all_lines End g = tt
all_lines (Alone label rest) g = (tt, all_lines rest g)
all_lines (Plain label line step rest) g = (g.0, all_lines rest g.1)
all_lines (Nested label line operator operand inside close rest) g = (g.0, all_lines rest g.1)

-- of a line
same_line_rules : (scope : Scope) (line : BodyLine) (following : List BodyLine) (kind : Option Kind) → LineGivesNothingOut line → line_rules scope line following kind ≡ line_rules_before scope line following kind
same_line_rules scope (AloneLine label) following kind g = refl
same_line_rules scope (PlainLine label line step) following kind g = same_step_rules scope line step following kind g
same_line_rules scope (NestedLine label line operator operand inside close) following kind g =
    ap (λ (a : List Check). opening_checks scope line operator operand kind ++ a ++ closing_checks close kind (kind_following scope inside (opening_kind scope operand)))
    (same_inside scope inside (opening_kind scope operand) g)

-- of the lines of a body
same_positions : (scope : Scope) (before lines : List BodyLine) → LinesGiveNothingOut lines → flat_map (rules_at_position scope) (positions_after before lines) ≡ flat_map (rules_at_position_before scope) (positions_after before lines)
same_positions scope before [] g = refl
same_positions scope before (line ∷ lines) g =
    ap₂ (λ (a b : List Check). (label_rules before (label_of line) ++ a) ++ b) (same_line_rules scope line lines (kind_at scope before line) g.0) (same_positions scope (line ∷ before) lines g.1)

-- of the bodies of units
pub same_units : (before units : List ProgramUnit) → UnitsGiveNothingOut units
    → flat_map (λ position. body_rules (record { before = position.before; unit = position.item })) (positions_after before units) ≡ flat_map (λ position. body_rules_before (record { before = position.before; unit = position.item })) (positions_after before units)
same_units before [] g = refl
same_units before (unit ∷ units) g =
    ap₂ (λ (a b : List Check). a ++ b) (same_positions (record { before = before; unit = unit }) [] (lines_of unit.body) (all_lines unit.body g.0)) (same_units (unit ∷ before) units g.1)
