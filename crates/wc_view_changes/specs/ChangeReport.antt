-- What is reported about a change of the program before it is made: for each variable of the new program whether it keeps its
-- value, else its first one and why; and each variable of the old program that is lost. (The profile's own.)
use Rattle.std.specs.Prelude.{ℕ, Bool, true, false, List, [], ◌∷◌, ◌++◌, reverse, Option, Some, None, option_and_then, option_map, codes}
use Rattle.std.specs.Fmt.{signed_decimal}
use Rattle.std.specs.List.{flat_map, list_all}
use Rattle.std.specs.Ordering.{int_eq}
use Rattle.wc_model.specs.Definitions.{keeps, VariableType, Elementary, Standard, Block, block_named, variable_named, Name, Scope, type_of, ProgramUnit, Text, text_view}
use Rattle.wc_model.specs.Language.Store.{Content, Path, Plain as Held, first_content}
use Rattle.wc_model.specs.declared.block.StandardBlock.{StandardBlock}
use Rattle.wc_model.specs.declared.block.StandardBlock.TheVariants.{RTrig, Sr, Rs, Ctu, Ton, Tof, Tp}
use Rattle.wc_model.specs.declared.kind.Kind.{Kind}
use Rattle.wc_model.specs.declared.kind.Kind.TheVariants.{Bool as KindBool, Dint as KindDint, Time as KindTime}
use Rattle.wc_model.specs.declared.source.Initial.{Initial}
use Rattle.wc_model.specs.declared.source.Source.{Source}
use Rattle.wc_model.specs.declared.value.Value.TheVariants.{Bool as Truth, Dint, Time}
use Rattle.wc_view_changes.specs.declared.describing.Pass.{Pass}
use Rattle.wc_view_changes.specs.declared.describing.Pass.TheVariants as pass
use Rattle.wc_view_changes.specs.Shown.{FrameEntry, Plain, Instance, Shown, names_of, paths_of, shown_of}

-- the types as a text spells them
abbrev pub kind_text : Kind → List ℕ
kind_text KindBool = codes "BOOL"
kind_text KindDint = codes "DINT"
kind_text KindTime = codes "TIME"

abbrev pub block_text : StandardBlock → List ℕ
block_text RTrig = codes "R_TRIG"
block_text Sr = codes "SR"
block_text Rs = codes "RS"
block_text Ctu = codes "CTU"
block_text Ton = codes "TON"
block_text Tof = codes "TOF"
block_text Tp = codes "TP"

-- what a place holds, as a literal of the language
abbrev pub content_text : Content → List ℕ
content_text (Held (Truth false)) = codes "FALSE"
content_text (Held (Truth true)) = codes "TRUE"
content_text (Held (Dint number)) = signed_decimal number
content_text (Held (Time time)) = codes "T#" ++ (signed_decimal time ++ codes "ms")
content_text content = []

-- the type of a variable, and its first value if it has one of its own
abbrev pub shape_text : FrameEntry → List ℕ
shape_text (Plain kind content) = kind_text kind ++ (32 ∷ content_text content)
shape_text (Instance block) = block_text block

-- its type alone
abbrev pub shape_type : FrameEntry → List ℕ
shape_type (Plain kind content) = kind_text kind
shape_type (Instance block) = block_text block

-- What is under names, with its type as it is spelled: what has a line of its own, as a variable of an elementary type and an
-- instance of a standard block have, or an instance of a block of the text, which has none. (The profile's own.)
-- A variable of an elementary type has its first value too.
pub record Found : Type 0 where
  pub type : List ℕ
  pub has_line : Bool
  pub first : Option Content

-- the first value that is written after a variable of a unit, if one is
abbrev pub initial_of : ProgramUnit → Name → Option Initial
initial_of unit name = option_and_then (λ v. v.initial) (variable_named unit name)

-- what has this type
abbrev pub found_of : List ProgramUnit → Option Initial → Option VariableType → Option Found
found_of before initial None = None
found_of before initial (Some (Elementary kind)) = Some (record { type = kind_text kind; has_line = true; first = Some (first_content kind initial) })
found_of before initial (Some (Standard block)) = Some (record { type = block_text block; has_line = true; first = None })
found_of before initial (Some (Block block)) = option_map (λ found. record { type = found.0.spelled; has_line = false; first = None }) (block_named before block)

-- the unit of what has this type, if it is an instance of a block of the text
abbrev pub unit_of_type : List ProgramUnit → Option VariableType → Option Scope
unit_of_type before (Some (Block block)) = option_map (λ found. record { before = found.1; unit = found.0 }) (block_named before block)
unit_of_type before type = None

-- what names lead to from a unit, if to anything
abbrev pub found_from : List Name → Scope → Option Found
found_from [] scope = None
found_from (name ∷ []) scope = found_of scope.before (initial_of scope.unit name) (type_of scope name)
found_from (name ∷ next ∷ names) scope = option_and_then (found_from (next ∷ names)) (unit_of_type scope.before (type_of scope name))

-- so from the program of a text
abbrev pub program_of : Text → Option Scope
program_of text = elim (reverse text) [ program ∷ before ↦ Some (record { before = before; unit = program }) | [] ↦ None ]

abbrev pub found_in : Text → List Name → Option Found
found_in text names = option_and_then (found_from names) (program_of text)

-- it has a line
abbrev pub has_line : Option Found → Bool
has_line found = elim found [ Some f ↦ f.has_line | None ↦ false ]

-- why a variable begins with its first value: the old text has none of its names, or one of another type
abbrev pub reason_text : Option (List ℕ) → List ℕ
reason_text None = codes "new"
reason_text (Some type) = codes "was " ++ type

-- the names of a variable, with a dot after each instance
abbrev pub path_text : Shown → List ℕ
path_text s = flat_map (λ instance. instance ++ 46 ∷ []) s.instances ++ s.name

-- the line of a variable of the new program
abbrev pub line_text : Bool → List ℕ → FrameEntry → Option (List ℕ) → List ℕ
line_text true path shape old_type = codes "kept " ++ (path ++ 10 ∷ [])
line_text false path shape old_type = codes "first " ++ (path ++ (32 ∷ (shape_text shape ++ (32 ∷ (reason_text old_type ++ 10 ∷ [])))))

-- The line of a variable of the old program that is lost: it has none if something with a line is under its names in the
-- new program, since that line says `kept` or `was`. (The profile's own.)
abbrev pub lost_text : Bool → List ℕ → FrameEntry → List ℕ
lost_text true path shape = []
lost_text false path shape = codes "lost " ++ (path ++ (32 ∷ (shape_type shape ++ 10 ∷ [])))

-- a variable keeps its value if each of its places does
abbrev pub is_kept : Text → Text → Shown → Bool
is_kept old new s = list_all (λ path. keeps old new (Path path)) (paths_of s)

-- two first values are the same
abbrev pub same_content : Content → Content → Bool
same_content (Held (Truth true)) (Held (Truth true)) = true
same_content (Held (Truth false)) (Held (Truth false)) = true
same_content (Held (Dint a)) (Held (Dint b)) = int_eq a b
same_content (Held (Time a)) (Held (Time b)) = int_eq a b
same_content a b = false

-- A note on a variable that keeps its value though its first value is another than before: the first value that is not taken, and
-- the one before; as an object (JSON) or as a line of text. (The profile's own.)
abbrev pub note_text : Bool → List ℕ → Content → Content → List ℕ
note_text true path first before = codes "{\"severity\":\"note\",\"variable\":\"" ++ (path ++ (codes "\",\"first\":\"" ++ (content_text first ++ (codes "\",\"before\":\"" ++ (content_text before ++ codes "\"}\n")))))
note_text false path first before = codes "note: a change keeps the value of `" ++ (path ++ (codes "`; its first value, " ++ (content_text first ++ (codes ", is not taken (it was " ++ (content_text before ++ codes ")\n")))))

abbrev pub note_on : Bool → Bool → List ℕ → FrameEntry → Option Content → List ℕ
note_on as_objects true path (Plain kind first) (Some before) = elim (same_content first before) [ true ↦ [] | false ↦ note_text as_objects path first before ]
note_on as_objects kept path shape before = []

-- what is reported about a variable, by whose variables are listed
abbrev pub pass_text : Pass → Bool → List ℕ → FrameEntry → Option Found → List ℕ
pass_text pass.New kept path shape found = line_text kept path shape (option_map (λ f. f.type) found)
pass_text pass.Old kept path shape found = lost_text (has_line found) path shape
pass_text (pass.Notes as_objects) kept path shape found = note_on as_objects kept path shape (option_and_then (λ f. f.first) found)

-- the lines of the variables of a text next to another, in the order of declaration
abbrev pub line_alongside : Pass → Text → Text → Shown → List ℕ
line_alongside pass other text s = pass_text pass (is_kept other text s) (path_text s) s.shape (found_in other (names_of s))

abbrev pub lines_alongside : Pass → Text → Source → List ℕ
lines_alongside pass other source = flat_map (line_alongside pass other (text_view source)) (shown_of source)

-- the notes on the variables of the new program
abbrev pub change_notes : Bool → Source → Source → List ℕ
change_notes as_objects old new = lines_alongside (pass.Notes as_objects) (text_view old) new

-- the lines of all variables of the new program, and after them those of the old one that are lost
abbrev pub change_report : Source → Source → List ℕ
change_report old new = lines_alongside pass.New (text_view old) new ++ lines_alongside pass.Old (text_view new) old
