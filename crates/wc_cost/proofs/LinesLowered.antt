-- The flat lines of lines, one after the other from the last.
use Rattle.std.proofs.Common.{◌≡◌, ℕ, zero, suc, List, [], ◌∷◌, ◌++◌, drop, Option, Some, None, append_assoc, option_map, refl, sym, ap, subst, ◌∙◌}
use Rattle.wc_text_flat.specs.{sources_of, IsLowered, IsOpening}
use Rattle.wc_model.specs.Definitions.{BodyLine, AloneLine, PlainLine, NestedLine, Name, Scope, label_view, line_view, lines_view, word_view}
use Rattle.wc_model.specs.Language.Tree.{Word, Term, Step, Load, Store, Apply, Negate, Jump, Call, Return, Lines, End}
use Rattle.wc_model.specs.declared.code.Code.{Code}
use Rattle.wc_model.specs.declared.code.Code.TheVariants.{Close}
use Rattle.wc_model.specs.declared.operator.Operator.{Operator}
use Rattle.wc_model.specs.declared.tree.Instr.{Instr}
use Rattle.wc_model.specs.declared.tree.Line.{Line}
use Rattle.wc_verify.proofs.InstrLines.{view_instr, view_none}
use Rattle.wc_verify.specs.Instructions.{instr_line, put}
use Rattle.wc_cost.specs.{FlatLines, put_line, Adds, AddsLine, AddsLines, IsLineLowered, line_sources, IsAhead, IsInsideLowerable, IsLineLowerable, IsStepLowerable, Nowhere}

-- one flat line
pub one_line : (P : List Code → Type 0) (code : Code) (line : ℕ) (old new : FlatLines) → P (code ∷ []) → new ≡ put_line code line old → Adds P (line ∷ []) old new
one_line P code line old new is e = record { own = code ∷ []; lowered = is; code = ap (λ (f : FlatLines). f.code) e; places = ap (λ (f : FlatLines). f.sources) e }

-- a parenthesis: its `)`, the lines inside, and its opening line
pub nested_added : (scope : Scope) (rest : Lines) (label : Option Word) (line : ℕ) (operator : Operator) (operand : Option Term) (inside : Lines) (close : ℕ) (old first second new : FlatLines) (opening : Code) →
    first ≡ put_line (Close operator) close old → AddsLines scope inside first second → IsOpening scope operand opening → new ≡ put_line opening line second → AddsLine scope rest (NestedLine label line operator operand inside close) old new
nested_added scope rest label line operator operand inside close old first second new opening e h is f = record {
  own = opening ∷ h.own ++ Close operator ∷ [];
  lowered = record { opening = opening; inner = h.own; whole = refl; opens = is; inside = h.lowered };
  code = ap (λ (x : FlatLines). x.code) f ∙ ap (λ c. opening ∷ c) (h.code ∙ ap (λ c. h.own ++ c) (ap (λ (x : FlatLines). x.code) e) ∙ sym (append_assoc h.own (Close operator ∷ []) old.code));
  places = ap (λ (x : FlatLines). x.sources) f ∙ ap (λ c. line ∷ c) (h.places ∙ ap (λ c. sources_of inside ++ c) (ap (λ (x : FlatLines). x.sources) e) ∙ sym (append_assoc (sources_of inside) (close ∷ []) old.sources));
}

-- a line before others
nested_whole : (opening close : Code) (inner others code own : List Code) → own ≡ opening ∷ inner ++ close ∷ [] → code ≡ own ++ others → code ≡ opening ∷ inner ++ close ∷ others
nested_whole opening close inner others code own e f = f ∙ ap (λ c. c ++ others) e ∙ ap (λ c. opening ∷ c) (append_assoc inner (close ∷ []) others)

pub put_lowered : (scope : Scope) (rest : Lines) (line : BodyLine) (own others code : List Code) → IsLineLowered scope rest line own → IsLowered scope rest others → code ≡ own ++ others → IsLowered scope (put line rest) code
put_lowered scope rest (AloneLine label) own others code is h e = subst (IsLowered scope rest) (sym (e ∙ ap (λ c. c ++ others) is)) h
put_lowered scope rest (PlainLine label line step) own others code is h e = record { own = own; others = others; whole = e; step = is; rest = h }
put_lowered scope rest (NestedLine label line operator operand inside close) own others code is h e =
    record { opening = is.opening; inner = is.inner; others = others; whole = nested_whole is.opening (Close operator) is.inner others code own is.whole e; opens = is.opens; inside = is.inside; rest = h }

pub put_sources : (line : BodyLine) (rest : Lines) → sources_of (put line rest) ≡ line_sources line ++ sources_of rest
put_sources (AloneLine label) rest = refl
put_sources (PlainLine label line step) rest = refl
put_sources (NestedLine label line operator operand inside close) rest = ap (λ c. line ∷ c) (sym (append_assoc (sources_of inside) (close ∷ []) (sources_of rest)))

pub line_added : (scope : Scope) (rest : Lines) (line : BodyLine) (first old new : FlatLines) → AddsLine scope rest line old new → AddsLines scope rest first old → AddsLines scope (put line rest) first new
line_added scope rest line first old new one h = record {
  own = one.own ++ h.own;
  lowered = put_lowered scope rest line one.own h.own (one.own ++ h.own) one.lowered h.lowered refl;
  code = one.code ∙ ap (λ c. one.own ++ c) h.code ∙ sym (append_assoc one.own h.own first.code);
  places = one.places ∙ ap (λ c. line_sources line ++ c) h.places ∙ sym (append_assoc (line_sources line) (sources_of rest) first.sources) ∙ ap (λ c. c ++ first.sources) (sym (put_sources line rest));
}

-- a label alone before others
pub label_added : (scope : Scope) (label : Option Word) (rest : Lines) (first old : FlatLines) → AddsLines scope rest first old → AddsLines scope (label_view label rest) first old
label_added scope (Some word) rest first old h = record { own = h.own; lowered = h.lowered; code = h.code; places = h.places }
label_added scope None rest first old h = h

-- no lines
pub no_lines_added : (scope : Scope) (flat : FlatLines) → AddsLines scope End flat flat
no_lines_added scope flat = record { own = []; lowered = refl; code = refl; places = refl }

-- what can be lowered inside a parenthesis, line by line
pub inside_put : (scope : Scope) (line : BodyLine) (rest : Lines) → IsInsideLowerable scope (put line rest) → IsLineLowerable scope Nowhere line × IsInsideLowerable scope rest
inside_put scope (AloneLine label) rest h = (tt, h)
inside_put scope (PlainLine label line step) rest h = h
inside_put scope (NestedLine label line operator operand inside close) rest h = h

-- if there is no jump, it does not matter where one would lead
pub step_anywhere : (scope : Scope) (reached : Name → Type 0) (step : Step) → IsStepLowerable scope Nowhere step → IsStepLowerable scope reached step
step_anywhere scope reached (Load negated term) h = h
step_anywhere scope reached (Store storing target) h = h
step_anywhere scope reached (Apply operator term) h = h
step_anywhere scope reached Negate h = h
step_anywhere scope reached (Jump condition label) h = absurd h
step_anywhere scope reached (Call condition instance arguments) h = h
step_anywhere scope reached (Return condition) h = h

pub line_anywhere : (scope : Scope) (reached : Name → Type 0) (line : BodyLine) → IsLineLowerable scope Nowhere line → IsLineLowerable scope reached line
line_anywhere scope reached (AloneLine label) h = h
line_anywhere scope reached (PlainLine label line step) h = step_anywhere scope reached step h
line_anywhere scope reached (NestedLine label line operator operand inside close) h = h

-- the lines from an index on
inside_rest : (scope : Scope) (line : Line) (rest : Lines) (o : Option Instr) → line.instr ≡ o → IsInsideLowerable scope (line_view line rest) → IsInsideLowerable scope rest
inside_rest scope line rest (Some instr) e h = (inside_put scope (instr_line instr (option_map word_view line.label)) rest (subst (IsInsideLowerable scope) (view_instr line instr rest e) h)).1
inside_rest scope line rest None e h = following (option_map word_view line.label) (subst (IsInsideLowerable scope) (view_none line rest e) h)
  where
    following : (label : Option Word) → IsInsideLowerable scope (label_view label rest) → IsInsideLowerable scope rest
    following (Some word) g = g
    following None g = g

pub inside_from : (scope : Scope) (i : ℕ) (items : List Line) → IsInsideLowerable scope (lines_view items) → IsInsideLowerable scope (lines_view (drop i items))
inside_from scope zero items h = h
inside_from scope (suc i) [] h = tt
inside_from scope (suc i) (line ∷ items) h = inside_from scope i items (inside_rest scope line (lines_view items) line.instr refl h)

-- what is lowered of a line is lowered of the same one
pub as_line : (scope : Scope) (rest : Lines) (skip : ℕ) (a b : BodyLine) (old new : FlatLines) → a ≡ b → (IsLineLowerable scope (IsAhead rest skip) b → AddsLine scope rest b old new) → IsLineLowerable scope (IsAhead rest skip) a → AddsLine scope rest a old new
as_line scope rest skip a b old new e h may = subst (λ x. AddsLine scope rest x old new) (sym e) (h (subst (IsLineLowerable scope (IsAhead rest skip)) e may))
