-- When a warning comes, in the words of the subject. (The profile's own.)
use Rattle.std.specs.Prelude.{◌≡◌, ℕ, Bool, true, false, List, [], ◌∷◌, ◌++◌, ◌↔◌, Some, None, codes}
use Rattle.std.specs.List.{list_any}
use Rattle.wc_model.specs.Definitions.{Variable, elementary_types, named_in, standard_blocks, Name}
use Rattle.wc_model.specs.declared.kind.Kind.{Kind}
use Rattle.wc_model.specs.declared.source.Section.TheVariants.{Input, Output, Own}
use Rattle.wc_model.specs.declared.source.UnitKind.{UnitKind}
use Rattle.wc_model.specs.declared.source.UnitKind.TheVariants.{FunctionBlock, Program}
use Rattle.wc_diag_warnings.specs.Uses.{reads_valid, reads_weight, stores, is_called, is_given, is_read, is_written}
use Rattle.wc_diag_warnings.specs.Events.{Begins, Labels, BodyEvent}
use Rattle.wc_diag_warnings.specs.Warnings.{declared_number, is_above_reached, is_timer, number_at}
use Rattle.wc_diag_warnings.specs.Paths.{action_jumps, action_leaves, is_on}

-- A run comes to an event after those before it, newest first. It begins at the body's start or at a marked
-- event; it goes on to the next event, unless that before always leaves; and from a jump to a label ahead.
pub data IsWay (starts : Bool) (marks : BodyEvent → Bool) : List BodyEvent → BodyEvent → Type 0 where
  at_start : (e : BodyEvent) → starts ≡ true → IsWay starts marks [] e
  from_mark : (before : List BodyEvent) (last e : BodyEvent) → marks last ≡ true → action_leaves last.action ≡ false → IsWay starts marks (last ∷ before) e
  onward : (before : List BodyEvent) (last e : BodyEvent) → IsWay starts marks before last → action_leaves last.action ≡ false → IsWay starts marks (last ∷ before) e
  by_jump : (all between before : List BodyEvent) (jump e : BodyEvent) (name : Name) → all ≡ between ++ jump ∷ before → IsWay starts marks before jump →
      action_jumps jump.action name ≡ true → e.action ≡ Labels name → IsWay starts marks all e

-- what is computed of the paths to an event is so
abbrev pub EdgesAreThere : Type 0
EdgesAreThere = (starts : Bool) (marks : BodyEvent → Bool) (before : List BodyEvent) (e : BodyEvent) → (is_on starts marks before e ≡ true) ↔ IsWay starts marks before e

-- a variable that is not an instance, and one that is
abbrev pub IsPlain : Variable → Type 0
IsPlain v = (type : Kind) × (named_in elementary_types v.type_name ≡ Some type)

abbrev pub IsInstance : Variable → Type 0
IsInstance v = named_in elementary_types v.type_name ≡ None

-- a variable that its own unit alone reads and writes: one of VAR, or of the program
pub data IsAlone (v : Variable) : UnitKind → Type 0 where
  of_var : (kind : UnitKind) → v.section ≡ Own → IsAlone v kind
  of_program : IsAlone v Program

-- which warning a declared name has
pub data IsWarned (events : List BodyEvent) (v : Variable) : UnitKind → ℕ → Type 0 where
  unused : (kind : UnitKind) → IsPlain v → IsAlone v kind → is_read events v.name ≡ false → is_written events v.name ≡ false → IsWarned events v kind 1
  only_written : (kind : UnitKind) → IsPlain v → IsAlone v kind → is_read events v.name ≡ false → is_written events v.name ≡ true → IsWarned events v kind 2
  input_not_read : IsPlain v → v.section ≡ Input → is_read events v.name ≡ false → IsWarned events v FunctionBlock 2
  only_read : (kind : UnitKind) → IsPlain v → IsAlone v kind → is_read events v.name ≡ true → is_written events v.name ≡ false → v.initial ≡ None → IsWarned events v kind 3
  not_called : (kind : UnitKind) → IsInstance v → is_called events v.name ≡ false → IsWarned events v kind 4
  output_not_written : IsPlain v → v.section ≡ Output → is_written events v.name ≡ false → IsWarned events v FunctionBlock 5
  no_time : (kind : UnitKind) → IsInstance v → is_timer (named_in standard_blocks v.type_name) ≡ true → is_called events v.name ≡ true →
      is_given events v.name (codes "pt") ≡ false → IsWarned events v kind 6

-- a declared name has a warning of that number exactly then
abbrev pub EachDeclaredWarningIsSo : Type 0
EachDeclaredWarningIsSo = (kind : UnitKind) (events : List BodyEvent) (v : Variable) (number : ℕ) → (declared_number kind events v ≡ Some number) ↔ IsWarned events v kind number

-- which warning an event of a body has, after those before it
pub data IsNoted (numbers : List ℕ) (events before : List BodyEvent) (e : BodyEvent) : ℕ → Type 0 where
  not_reached : e.action ≡ Begins → ¬ (IsWay true (λ any. false) before e) → is_above_reached before ≡ true → IsNoted numbers events before e 7
  stored_again : (prefix back : List ℕ) (output : ℕ) → numbers ≡ prefix ++ output ∷ back → stores output e ≡ true → IsWay false (stores output) before e → IsNoted numbers events before e 8
  unasked : reads_weight e ≡ true → list_any reads_valid events ≡ false → list_any reads_weight before ≡ false → IsNoted numbers events before e 9

-- an event has a warning of that number exactly then
abbrev pub EachEventWarningIsSo : Type 0
EachEventWarningIsSo = (numbers : List ℕ) (events before : List BodyEvent) (e : BodyEvent) (number : ℕ) → (number_at numbers events before e ≡ Some number) ↔ IsNoted numbers events before e number
