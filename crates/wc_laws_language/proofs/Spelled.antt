-- What is spelled nests only simple instructions, so a text that is loaded is never stuck.
use Rattle.std.proofs.Common.{◌≡◌, ℕ, true, List, [], ◌∷◌, None, refl}
use Rattle.wc_model.specs.Definitions.{body_fault, InBody, InParentheses, IsTransfer, IsProgramLast, lines, unit_of, units, line_ends, ◌then◌, each, Mark, scan_of, initial_of, Store}
use Rattle.wc_model.specs.Language.Tree.{Step, Load, Store as StoreStep, Apply, Negate, Jump, Call, Return, Lines, End, Alone, Plain, Nested, Text}
use Rattle.wc_model.specs.declared.image.Image.{Image}
use Rattle.wc_laws_language.proofs.Programs.{Any}
use Rattle.wc_laws_language.proofs.Texts.{text_is_never_stuck}
use Rattle.wc_laws_language.specs.{UnitsNestSimply, SpelledTextNestsSimply, LoadedTextIsNeverStuck, is_simple, IsSimple, NestsSimply, EndsWell, SameSlots}

-- what is not a jump, call or return is simple
pub step_simple : (step : Step) → ¬ (IsTransfer step) → is_simple step ≡ true
step_simple (Load negated operand) h = refl
step_simple (StoreStep storing target) h = refl
step_simple (Apply operator operand) h = refl
step_simple Negate h = refl
step_simple (Jump condition label) h = absurd (h tt)
step_simple (Call condition instance arguments) h = absurd (h tt)
step_simple (Return condition) h = absurd (h tt)

-- what is spelled inside parentheses is simple
pub inside_simple : (inside : Lines) (tokens : List Mark) → lines InParentheses inside tokens → IsSimple inside
inside_simple End tokens l = tt
inside_simple (Alone label rest) tokens l = absurd (l.goes_on.begins)
inside_simple (Plain label line step rest) tokens l = (step_simple step l.0, inside_simple rest l.1.goes_on.goes_on.goes_on.rest l.1.goes_on.goes_on.goes_on.goes_on)
inside_simple (Nested label line operator operand inside close rest) tokens l =
    (inside_simple inside l.1.goes_on.goes_on.goes_on.prefix l.1.goes_on.goes_on.goes_on.begins, inside_simple rest l.1.goes_on.goes_on.goes_on.goes_on.goes_on.rest l.1.goes_on.goes_on.goes_on.goes_on.goes_on.goes_on)

-- a body that is spelled nests only simple instructions
pub body_nests : (body : Lines) (tokens : List Mark) → lines InBody body tokens → NestsSimply body
body_nests End tokens l = tt
body_nests (Alone label rest) tokens l = body_nests rest l.goes_on.goes_on.rest l.goes_on.goes_on.goes_on
body_nests (Plain label line step rest) tokens l = body_nests rest l.1.goes_on.goes_on.goes_on.rest l.1.goes_on.goes_on.goes_on.goes_on
body_nests (Nested label line operator operand inside close rest) tokens l =
    (inside_simple inside l.1.goes_on.goes_on.goes_on.prefix l.1.goes_on.goes_on.goes_on.begins, body_nests rest l.1.goes_on.goes_on.goes_on.goes_on.goes_on.rest l.1.goes_on.goes_on.goes_on.goes_on.goes_on.goes_on)

-- and so do units that are spelled
pub units_nest : (text : Text) (tokens : List Mark) → each (λ unit. line_ends then unit_of unit) text tokens → UnitsNestSimply text
units_nest [] tokens e = tt
units_nest (unit ∷ text) tokens e = (body_nests unit.body e.begins.goes_on.goes_on.prefix e.begins.goes_on.goes_on.begins, units_nest text e.rest e.goes_on)

pub spelled_text_nests : SpelledTextNestsSimply
spelled_text_nests tokens text spells = units_nest text spells.spelled.prefix spells.spelled.begins

-- some units with a program last
pub some_text_ends : (text : Text) → IsProgramLast text → UnitsNestSimply text → body_fault text ≡ None → (store : Store) → SameSlots (initial_of text) store → (image : Image) (now : ℕ) → EndsWell Any (initial_of text) (scan_of text store image now)
some_text_ends [] order simple sound store same image now = absurd order
some_text_ends (unit ∷ units) order simple sound store same image now = text_is_never_stuck unit units simple sound store same image now

pub loaded_text_is_never_stuck : LoadedTextIsNeverStuck
loaded_text_is_never_stuck bytes text loaded store same image now =
    some_text_ends text loaded.read.spelled.order (spelled_text_nests _ text loaded.read.spelled) loaded.bodies store same image now
