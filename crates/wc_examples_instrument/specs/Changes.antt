-- A program, and one that takes its place between two scans.
use Rattle.std.specs.Prelude.{List, [], ◌∷◌, pos, codes, Some}
use Rattle.wc_examples_language.specs.Writing.{word, declares}
use Rattle.wc_model.specs.Definitions.{Name, Location, Path, Text, End, Declaration}
use Rattle.wc_model.specs.declared.source.Section.TheVariants.{Own}
use Rattle.wc_model.specs.declared.source.UnitKind.TheVariants.{Program}
use Rattle.wc_model.specs.declared.value.Value.TheVariants.{Dint}

-- a program of nothing but declarations
abbrev pub declaring : Name → List Declaration → Text
declaring name declarations = record { kind = Program; line = 1; name = record { line = 1; name = name }; spelled = name; declarations = declarations; body = End } ∷ []

-- VAR n : DINT := 5; t : TON; END_VAR
abbrev pub old_text : Text
old_text = declaring (codes "p") (record { section = Own; names = word 2 "n" ∷ []; type_name = word 2 "dint"; initial = Some (record { value = Dint (pos 5); line = 2 }) } ∷ declares Own 2 "t" "ton" ∷ [])

-- VAR t : TON; N : DINT := 50; k : DINT := 7; END_VAR, in a program of another name
abbrev pub new_text : Text
new_text =
    declaring (codes "q")
    (declares Own 2 "t" "ton"
    ∷ record { section = Own; names = word 2 "n" ∷ []; type_name = word 2 "dint"; initial = Some (record { value = Dint (pos 50); line = 2 }) }
    ∷ record { section = Own; names = word 2 "k" ∷ []; type_name = word 2 "dint"; initial = Some (record { value = Dint (pos 7); line = 2 }) }
    ∷ [])

-- VAR n : TIME; t : TOF; END_VAR
abbrev pub other_kinds : Text
other_kinds = declaring (codes "p") (declares Own 2 "n" "time" ∷ declares Own 2 "t" "tof" ∷ [])

-- a place by its names
abbrev pub plain : Name → Location
plain name = Path (name ∷ [])

abbrev pub field : Name → Name → Location
field instance name = Path (instance ∷ name ∷ [])
