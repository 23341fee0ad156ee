-- Texts that give no output out mean what they meant.
use Rattle.std.proofs.Common.{◌≡◌, ℕ, Bool, true, false, List, [], ◌∷◌, ◌++◌, reverse, Option, Some, None, refl, sym, ap, subst, ◌∙◌}
use Rattle.std.proofs.lemmas.Grind.{reverse_onto}
use Rattle.wc_model.specs.Definitions.{VariableType, same_name, Calls, Context, Effect, Fails, Goes, Mode, Outcome, Returned, Running, Seeking, Stuck, acts, arriving, body_means, call_effect, called, called_type, chosen, continued, line_effect, means, nested_effect, program_means, step_effect, Name, NoSuchPlace, first_of_reversed, scan_of, with_image, Scope, type_of, Store, At}
use Rattle.wc_model.specs.Language.Tree.{Alone, Apply, Assignment, Call, End, Jump, Lines, Load, Negate, Nested, Plain, ProgramUnit, Return, Step, Store as StoreStep, Text, outputs_of}
use Rattle.wc_model.specs.declared.image.Image.{Image}
use Rattle.wc_model.specs.declared.value.Value.{Value}
use Rattle.wc_laws_language.proofs.Unchanged.{same_call}
use Rattle.wc_laws_language.specs.{called_before, GivesNothingOut, StepGivesNothingOut, UnitsGiveNothingOut, block_called_before, body_means_before, call_effect_before, line_effect_before, means_before, program_means_before, scan_of_before, step_effect_before}

-- a call
same_call_effect : (here : Context) (line : ℕ) (instance : Name) (arguments : List Assignment) (result : Option Value) (store : Store) → outputs_of arguments ≡ []
    → call_effect here line instance arguments result store ≡ call_effect_before here line instance arguments result store
same_call_effect here line instance arguments result store e = by_type (type_of here.scope instance)
  where
    by_type : (o : Option VariableType) → (elim o as (λ x. Effect) [ Some type ↦ called_type here type line instance arguments result store | None ↦ Fails NoSuchPlace ])
        ≡ (elim o as (λ x. Effect) [ Some type ↦ called_before here type line instance arguments result store | None ↦ Fails NoSuchPlace ])
    by_type (Some type) = same_call here type line instance arguments result store e
    by_type None = refl

-- a step
same_step : (here : Context) (line : ℕ) (step : Step) (result : Option Value) (store : Store) → StepGivesNothingOut step → step_effect here line step result store ≡ step_effect_before here line step result store
same_step here line (Load negated operand) result store g = refl
same_step here line (StoreStep storing target) result store g = refl
same_step here line (Apply operator operand) result store g = refl
same_step here line Negate result store g = refl
same_step here line (Jump condition label) result store g = refl
same_step here line (Call condition instance arguments) result store g =
    ap (λ (effect : Effect). chosen (acts condition result) effect (Goes (Running result) store (At line ∷ []))) (same_call_effect here line instance arguments result store g)
same_step here line (Return condition) result store g = refl

-- a line
same_line : (here : Context) (line : ℕ) (step : Step) (mode : Mode) (store : Store) → StepGivesNothingOut step → line_effect here line step mode store ≡ line_effect_before here line step mode store
same_line here line step (Running result) store g = same_step here line step result store g
same_line here line step (Seeking label result) store g = refl
same_line here line step (Returned result) store g = refl

-- the lines left
same_means : (here : Context) (lines : Lines) → GivesNothingOut lines → means here lines ≡ means_before here lines
same_means here End g = refl
same_means here (Alone word rest) g = λ i mode store. same_means here rest g i (arriving (Some word) mode) store
same_means here (Plain word line step rest) g =
    λ i mode store. continued (same_line here line step (arriving word mode) store g.0 i) (same_means here rest g.1 i)
same_means here (Nested word line operator operand inside close rest) g =
    λ i mode store. continued (nested_effect here line operator operand close (same_means here inside g.0 i) (arriving word mode) store) (same_means here rest g.1 i)

-- a body, with blocks that do the same
same_body : (scope : Scope) (instance : List Name) (now : ℕ) (calls others : Calls) (store : Store) → GivesNothingOut scope.unit.body → calls ≡ others
    → body_means scope instance now calls store ≡ body_means_before scope instance now others store
same_body scope instance now calls others store g e =
    ap (λ (c : Calls). body_means scope instance now c store) e
    ∙ ap (λ (f : Mode → Store → Outcome). f (Running None) store) (same_means (record { scope = scope; instance = instance; now = now; calls = others }) scope.unit.body g)

-- the block of a unit, or of those before it
one_block : (unit : ProgramUnit) (before : List ProgramUnit) (now : ℕ) → GivesNothingOut unit.body → called before now ≡ block_called_before before now → called (unit ∷ before) now ≡ block_called_before (unit ∷ before) now
one_block unit before now g rest = λ i name instance store. by_test name instance store (same_name unit.name.name name) i
  where
    by_test : (name : Name) (instance : List Name) (store : Store) (b : Bool)
        → (elim b as (λ x. Outcome) [ true ↦ body_means (record { before = before; unit = unit }) instance now (called before now) store | false ↦ called before now name instance store ])
        ≡ (elim b as (λ x. Outcome) [ true ↦ body_means_before (record { before = before; unit = unit }) instance now (block_called_before before now) store | false ↦ block_called_before before now name instance store ])
    by_test name instance store true = same_body (record { before = before; unit = unit }) instance now (called before now) (block_called_before before now) store g rest
    by_test name instance store false = ap (λ (f : Calls). f name instance store) rest

-- the blocks of a text
same_blocks : (units : List ProgramUnit) (now : ℕ) → UnitsGiveNothingOut units → called units now ≡ block_called_before units now
same_blocks [] now g = λ i name instance store. Stuck NoSuchPlace
same_blocks (unit ∷ before) now g = one_block unit before now g.0 (same_blocks before now g.1)

-- units after others
after_units : (units more : List ProgramUnit) → UnitsGiveNothingOut units → UnitsGiveNothingOut more → UnitsGiveNothingOut (units ++ more)
after_units [] more g h = h
after_units (unit ∷ units) more g h = (g.0, after_units units more g.1 h)

-- units in the other order
pub turned_units : (units : List ProgramUnit) → UnitsGiveNothingOut units → UnitsGiveNothingOut (reverse units)
turned_units [] g = tt
turned_units (unit ∷ units) g =
    subst UnitsGiveNothingOut (sym (reverse_onto units unit []))
    (after_units (reverse units) (unit ∷ []) (turned_units units g.1) (g.0, tt))

-- a scan
from_last : (units : List ProgramUnit) (store : Store) (image : Image) (now : ℕ) → UnitsGiveNothingOut units
    → first_of_reversed units (λ before program. program_means before program now (with_image image store)) ≡ first_of_reversed units (λ before program. program_means_before before program now (with_image image store))
from_last [] store image now g = refl
from_last (program ∷ before) store image now g =
    same_body (record { before = before; unit = program }) [] now (called before now) (block_called_before before now) (with_image image store) g.0 (same_blocks before now g.1)

pub same_scan : (text : Text) → UnitsGiveNothingOut text → (store : Store) (image : Image) (now : ℕ) → scan_of text store image now ≡ scan_of_before text store image now
same_scan text g store image now = from_last (reverse text) store image now (turned_units text g)
