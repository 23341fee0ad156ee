-- The labels of a body that is lowered from the last line to the first.
use Rattle.wc_model.proofs.Common.{◌≡◌, ℕ, zero, suc, ◌+◌, ◌<◌, Bool, true, false, List, [], ◌∷◌, ◌++◌, length, drop, Option, Some, None, option_map, refl, sym, ap, subst, ◌∙◌, arith, if◌then◌else◌}
use Rattle.wc_text_flat.proofs.Bodies.{lowered_length}
use Rattle.wc_text_flat.specs.Lowered.{flat_length, lines_ahead, step_length}
use Rattle.wc_model.specs.Definitions.{named_in, same_name, BodyLine, AloneLine, PlainLine, NestedLine, carries, Name, Scope, Word, Lines, End, label_view, line_view, lines_view, word_view, label_of}
use Rattle.wc_model.specs.declared.tree.Instr.{Instr}
use Rattle.wc_model.specs.declared.tree.Line.{Line}
use Rattle.wc_verify.proofs.InstrLines.{view_instr, view_none}
use Rattle.wc_verify.specs.Instructions.{instr_line, put}
use Rattle.wc_cost.proofs.LinesLowered.{put_lowered, put_sources}
use Rattle.wc_cost.specs.{FlatLines, no_lines, AddsLine, HoldsLabels, IsFlat, IsKeptFlat, KeepsLabel, Represents, IsAhead, IsLowerable, IsLineLowerable, IsNear}

-- what can be lowered of a line can be lowered of the same one
pub as_near : (scope : Scope) (rest : Lines) (skip : ℕ) (a b : BodyLine) → a ≡ b → (IsLineLowerable scope (IsNear rest) b → IsLineLowerable scope (IsAhead rest skip) b) → IsLineLowerable scope (IsNear rest) a → IsLineLowerable scope (IsAhead rest skip) a
as_near scope rest skip a b e h may = subst (IsLineLowerable scope (IsAhead rest skip)) (sym e) (h (subst (IsLineLowerable scope (IsNear rest)) e may))

-- how far ahead a label is
pub found_ahead : (rest : Lines) (label : Name) (o : Option ℕ) (left count far : ℕ) → Represents (lines_ahead rest label) o count → o ≡ Some left → IsNear rest label → ((n : ℕ) → n + left ≡ count → n < 4294967296 → far ≡ n) → IsAhead rest far label
found_ahead rest label o left count far represents e near go =
    let s : Represents (Some near.0) (Some left) count = subst (λ x. Represents x (Some left) count) near.1 (subst (λ x. Represents (lines_ahead rest label) x count) e represents) in
    near.1 ∙ ap Some (sym (go near.0 s near.2))

pub not_ahead : (rest : Lines) (label : Name) (o : Option ℕ) (count : ℕ) → Represents (lines_ahead rest label) o count → o ≡ None → IsNear rest label → ⊥
not_ahead rest label o count represents e near = subst (λ x. Represents x None count) near.1 (subst (λ x. Represents (lines_ahead rest label) x count) e represents)

-- the number of flat lines a line has
abbrev line_length : BodyLine → ℕ
line_length (AloneLine label) = 0
line_length (PlainLine label line step) = step_length step
line_length (NestedLine label line operator operand inside close) = 2 + flat_length inside

same_ahead : (b : Bool) (o : Option ℕ) → (if b then Some 0 else o) ≡ (if b then Some 0 else option_map (λ n. 0 + n) o)
same_ahead true o = refl
same_ahead false None = refl
same_ahead false (Some n) = ap Some (let a : n ≡ 0 + n = omega arith in a)

put_ahead : (line : BodyLine) (rest : Lines) (label : Name) → lines_ahead (put line rest) label ≡ (if carries (label_of line) label then Some 0 else option_map (λ n. line_length line + n) (lines_ahead rest label))
put_ahead (AloneLine word) rest label = same_ahead (same_name word.name label) (lines_ahead rest label)
put_ahead (PlainLine word line step) rest label = refl
put_ahead (NestedLine word line operator operand inside close) rest label = refl

put_length : (line : BodyLine) (rest : Lines) → flat_length (put line rest) ≡ line_length line + flat_length rest
put_length (AloneLine word) rest = let a : flat_length rest ≡ 0 + flat_length rest = omega arith in a
put_length (PlainLine word line step) rest = refl
put_length (NestedLine word line operator operand inside close) rest = refl

-- one more line before
shifted : (n count : ℕ) (o left : Option ℕ) → Represents o left count → Represents (option_map (λ k. n + k) o) left (n + count)
shifted n count None None h = tt
shifted n count None (Some left) h = h
shifted n count (Some k) None h = h
shifted n count (Some k) (Some left) h = omega (arith, h)

by_label : (b : Bool) (n count total : ℕ) (o left : Option ℕ) → total ≡ n + count → Represents o left count → Represents (if b then Some 0 else option_map (λ k. n + k) o) (if b then Some total else left) total
by_label true n count total o left e h = omega arith
by_label false n count total o left e h = subst (Represents (option_map (λ k. n + k) o) left) (sym e) (shifted n count o left h)

held_more : (word : Option Word) (n count total : ℕ) (old new : List (Name × ℕ)) (ahead : Name → Option ℕ) → total ≡ n + count → KeepsLabel word total old new → ((label : Name) → Represents (ahead label) (named_in old label) count) →
    (label : Name) → Represents (if carries word label then Some 0 else option_map (λ k. n + k) (ahead label)) (named_in new label) total
held_more None n count total old new ahead e kept holds label =
    subst (λ (x : List (Name × ℕ)). Represents (option_map (λ k. n + k) (ahead label)) (named_in x label) total) (sym kept) (by_label false n count total (ahead label) (named_in old label) e (holds label))
held_more (Some word) n count total old new ahead e kept holds label =
    subst (λ x. Represents (if same_name word.name label then Some 0 else option_map (λ k. n + k) (ahead label)) x total) (sym (kept label)) (by_label (same_name word.name label) n count total (ahead label) (named_in old label) e (holds label))

lowered_count : (scope : Scope) (lines : Lines) (flat : FlatLines) → IsFlat scope lines flat → length flat.code ≡ flat_length lines
lowered_count scope lines flat h = lowered_length scope lines flat.code h.0

pub line_kept : (scope : Scope) (rest : Lines) (line : BodyLine) (labels kept : List (Name × ℕ)) (old new : FlatLines) → AddsLine scope rest line old new → KeepsLabel (label_of line) (length new.code) labels kept → IsKeptFlat scope rest labels old → IsKeptFlat scope (put line rest) kept new
line_kept scope rest line labels kept old new one keeps h = (is, holds)
  where
    is : IsFlat scope (put line rest) new
    is = (put_lowered scope rest line one.own old.code new.code one.lowered h.0.0 one.code, one.places ∙ ap (λ s. Rattle.wc_cost.specs.Lowering.line_sources line ++ s) h.0.1 ∙ sym (put_sources line rest))

    counted : length new.code ≡ line_length line + length old.code
    counted = lowered_count scope (put line rest) new is ∙ put_length line rest ∙ ap (λ n. line_length line + n) (sym (lowered_count scope rest old h.0))

    holds : HoldsLabels kept (put line rest) (length new.code)
    holds label = subst (λ x. Represents x (named_in kept label) (length new.code)) (sym (put_ahead line rest label)) (held_more (label_of line) (line_length line) (length old.code) (length new.code) labels kept (lines_ahead rest) counted keeps h.1 label)

-- a label alone
pub label_kept : (scope : Scope) (rest : Lines) (label : Option Word) (labels kept : List (Name × ℕ)) (flat : FlatLines) → KeepsLabel label (length flat.code) labels kept → IsKeptFlat scope rest labels flat → IsKeptFlat scope (label_view label rest) kept flat
label_kept scope rest None labels kept flat keeps h = (h.0, subst (λ (x : List (Name × ℕ)). HoldsLabels x rest (length flat.code)) (sym keeps) h.1)
label_kept scope rest (Some word) labels kept flat keeps h =
    line_kept scope rest (AloneLine word) labels kept flat flat (record { own = []; lowered = refl; code = refl; places = refl }) keeps h

-- what can be lowered, line by line
pub lowerable_put : (scope : Scope) (line : BodyLine) (rest : Lines) → IsLowerable scope (put line rest) → IsLineLowerable scope (IsNear rest) line × IsLowerable scope rest
lowerable_put scope (AloneLine label) rest h = (tt, h)
lowerable_put scope (PlainLine label line step) rest h = h
lowerable_put scope (NestedLine label line operator operand inside close) rest h = h

lowerable_rest : (scope : Scope) (line : Line) (rest : Lines) (o : Option Instr) → line.instr ≡ o → IsLowerable scope (line_view line rest) → IsLowerable scope rest
lowerable_rest scope line rest (Some instr) e h = (lowerable_put scope (instr_line instr (option_map word_view line.label)) rest (subst (IsLowerable scope) (view_instr line instr rest e) h)).1
lowerable_rest scope line rest None e h = following (option_map word_view line.label) (subst (IsLowerable scope) (view_none line rest e) h)
  where
    following : (label : Option Word) → IsLowerable scope (label_view label rest) → IsLowerable scope rest
    following (Some word) g = g
    following None g = g

pub lowerable_from : (scope : Scope) (i : ℕ) (items : List Line) → IsLowerable scope (lines_view items) → IsLowerable scope (lines_view (drop i items))
lowerable_from scope zero items h = h
lowerable_from scope (suc i) [] h = tt
lowerable_from scope (suc i) (line ∷ items) h = lowerable_from scope i items (lowerable_rest scope line (lines_view items) line.instr refl h)

-- no lines, and no labels
pub nothing_kept : (scope : Scope) (labels : List (Name × ℕ)) (flat : FlatLines) → labels ≡ [] → flat ≡ no_lines → IsKeptFlat scope End labels flat
nothing_kept scope labels flat e f =
    subst (λ (x : List (Name × ℕ)). IsKeptFlat scope End x flat) (sym e) (subst (λ (x : FlatLines). IsKeptFlat scope End [] x) (sym f) ((refl, refl), λ label. tt))
