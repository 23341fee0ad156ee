-- A text that gives no output out in any call is what it was: its meaning with its trace, its paths and so its bound, the rules by
-- which its bodies are checked, and its spelling.
use Rattle.std.specs.Prelude.{◌≡◌, ◌↔◌, ℕ, List, [], ◌∷◌, Option}
use Rattle.wc_model.specs.Definitions.{text_body_checks, Refusal, IsCostFault, body_fault, IsLongest, IsPath, scan_of, Scope, Store, Item, Spells, Mark}
use Rattle.wc_model.specs.Language.Tree.{Alone, Apply, Call, End, Jump, Lines, Load, Negate, Nested, Plain, ProgramUnit, Return, Step, Store as StoreStep, Text, outputs_of}
use Rattle.wc_model.specs.declared.image.Image.{Image}
use Rattle.wc_laws_language.specs.SpelledBefore.{SpelledBefore}
use Rattle.wc_laws_language.specs.TextsBefore.{IsCostFaultBefore, IsLongestBefore, IsPathBefore, body_fault_before, scan_of_before, text_body_checks_before}

-- a step that gives nothing out: no call, or one whose list gives no output out
abbrev pub StepGivesNothingOut : Step → Type 0
StepGivesNothingOut (Load negated operand) = Unit {0}
StepGivesNothingOut (StoreStep storing target) = Unit {0}
StepGivesNothingOut (Apply operator operand) = Unit {0}
StepGivesNothingOut Negate = Unit {0}
StepGivesNothingOut (Jump condition label) = Unit {0}
StepGivesNothingOut (Call condition instance arguments) = outputs_of arguments ≡ []
StepGivesNothingOut (Return condition) = Unit {0}

-- so do all steps of these lines, also within parentheses
abbrev pub GivesNothingOut : Lines → Type 0
GivesNothingOut End = Unit {0}
GivesNothingOut (Alone word rest) = GivesNothingOut rest
GivesNothingOut (Plain word line step rest) = StepGivesNothingOut step × GivesNothingOut rest
GivesNothingOut (Nested word line operator operand inside close rest) = GivesNothingOut inside × GivesNothingOut rest

-- and the bodies of all these units
abbrev pub UnitsGiveNothingOut : List ProgramUnit → Type 0
UnitsGiveNothingOut [] = Unit {0}
UnitsGiveNothingOut (unit ∷ units) = GivesNothingOut unit.body × UnitsGiveNothingOut units

-- each scan of it does what it did, with the same trace, and leaves the store that it left
abbrev pub ATextMeansWhatItDid : Type 0
ATextMeansWhatItDid = (text : Text) → UnitsGiveNothingOut text → (store : Store) (image : Image) (now : ℕ) → scan_of text store image now ≡ scan_of_before text store image now

-- each of its units has the paths that it had
abbrev pub AUnitHasThePathsItHad : Type 0
AUnitHasThePathsItHad = (scope : Scope) → UnitsGiveNothingOut (scope.unit ∷ scope.before) → (path : List Item) → IsPath scope path ↔ IsPathBefore scope path

-- and the bound that it had
abbrev pub AUnitHasTheBoundItHad : Type 0
AUnitHasTheBoundItHad = (scope : Scope) → UnitsGiveNothingOut (scope.unit ∷ scope.before) → (n : ℕ) → IsLongest scope n ↔ IsLongestBefore scope n

-- the last pass refuses it if it did, by 411 at the first unit that may take too many steps, and passes it if it did
abbrev pub ATextIsTooLongWhereItWas : Type 0
ATextIsTooLongWhereItWas = (text : Text) → UnitsGiveNothingOut text → (refusal : Option Refusal) → IsCostFault text refusal ↔ IsCostFaultBefore text refusal

-- its bodies are checked by the rules by which they were, in the same order, so its first fault is the same
abbrev pub ATextIsValidatedAsItWas : Type 0
ATextIsValidatedAsItWas = (text : Text) → UnitsGiveNothingOut text → (text_body_checks text ≡ text_body_checks_before text) × (body_fault text ≡ body_fault_before text)

-- it is spelled by the tokens by which it was, and by no others
abbrev pub ATextIsSpelledAsItWas : Type 0
ATextIsSpelledAsItWas = (text : Text) → UnitsGiveNothingOut text → (tokens : List Mark) → Spells tokens text ↔ SpelledBefore tokens text
