-- The rules on names, types, initial values, frames and addresses, 301 to 308, in text order (IEC 61131-3:2003, 2.1.2,
-- 2.4 and 2.5; limits and reserved words are the profile's own).
use Rattle.std.specs.Prelude.{ℕ, ◌+◌, ◌*◌, nat_le, Bool, true, false, not, ◌&&◌, ◌||◌, List, [], ◌∷◌, ◌++◌, map, length, Option, Some, None, is_some, if◌then◌else◌, ℤ, pos, negsuc}
use Rattle.std.specs.List.{flat_map, list_any}
use Rattle.wc_model.specs.Language.Checks.{Check, asks, positions_of}
use Rattle.wc_model.specs.Language.Declarations.{VariableType, Elementary, Standard, Block, same_name, is_block, block_named, type_named}
use Rattle.wc_model.specs.Language.DirectVariables.{variable_at, direct_variables}
use Rattle.wc_model.specs.Language.Names.{Name}
use Rattle.wc_model.specs.Language.Store.{block_places, variable_places}
use Rattle.wc_model.specs.Language.Tree.{Word, Term, Constant, Address, Variable as NameOf, Field, Step, Load, Store, Apply, Negate, Jump, Call, Return, Lines, End, Alone, Plain, Nested, Declaration, ProgramUnit, Text}
use Rattle.wc_model.specs.Text.Keywords.{block_words, kept_words, kind_words, operator_words, other_words, truth_words, unit_words}
use Rattle.wc_model.specs.declared.kind.Kind.{Kind}
use Rattle.wc_model.specs.declared.kind.Kind.TheVariants.{Bool as KindBool, Dint as KindDint, Time as KindTime}
use Rattle.wc_model.specs.declared.source.Section.{Section}
use Rattle.wc_model.specs.declared.source.Section.TheVariants.{Input, Output, Own}
use Rattle.wc_model.specs.declared.value.Value.{Value}
use Rattle.wc_model.specs.declared.value.Value.TheVariants.{Bool as Truth, Dint, Time}

-- instructions, keywords, types with the values of BOOL, and words that the standard keeps
abbrev pub reserved_words : List Name
reserved_words = operator_words ++ other_words ++ unit_words ++ (kind_words ++ truth_words ++ block_words) ++ kept_words

-- a name is among others
abbrev pub is_among : List Name → Name → Bool
is_among names name = list_any (same_name name) names

-- 307: a name that is not a reserved word
abbrev pub not_reserved : Word → Check
not_reserved word = asks 307 word.line (not (is_among reserved_words word.name))

-- 301: a name that is new among these
abbrev pub is_new : List Name → Word → Check
is_new names word = asks 301 word.line (not (is_among names word.name))

-- the two rules of each name of a declaration, which come before those of its type
abbrev pub name_of_word : Word → Name
name_of_word word = word.name

abbrev pub names_are_new : List Name → List Word → List Check
names_are_new names words = flat_map (λ position. not_reserved position.item ∷ is_new (map name_of_word position.before ++ names) position.item ∷ []) (positions_of words)

-- an instance is in VAR alone
abbrev pub is_own : Section → Bool
is_own Input = false
is_own Output = false
is_own Own = true

-- the names that are types in every text
abbrev pub type_words : List Name
type_words = kind_words ++ block_words

-- the name of a function block of the whole text
abbrev pub names_block_of : Text → Name → Bool
names_block_of text name = list_any (λ unit. is_block unit && same_name unit.name.name name) text

-- 308: no block of the text that is not closed before
abbrev pub is_closed_before : Text → List ProgramUnit → Name → Bool
is_closed_before text before name = is_among type_words name || is_some (block_named before name) || not (names_block_of text name)

-- 302: a type that there is, in a section where it may be
abbrev pub may_occur : Section → VariableType → Bool
may_occur section (Elementary kind) = true
may_occur section (Standard block) = is_own section
may_occur section (Block name) = is_own section

abbrev pub is_usable_type : List ProgramUnit → Section → Name → Bool
is_usable_type before section name = elim (type_named before name) [ Some type ↦ may_occur section type | None ↦ false ]

abbrev pub type_checks : Text → List ProgramUnit → Declaration → List Check
type_checks text before d =
    asks 308 d.type_name.line (is_closed_before text before d.type_name.name) ∷ asks 302 d.type_name.line (is_usable_type before d.section d.type_name.name) ∷ []

-- 303: a literal of the type; a whole number 0 or 1 serves a BOOL
abbrev pub is_bit : ℤ → Bool
is_bit (pos n) = nat_le n 1
is_bit (negsuc n) = false

abbrev pub suits_kind : Kind → Value → Bool
suits_kind KindBool (Truth b) = true
suits_kind KindBool (Dint n) = is_bit n
suits_kind KindBool (Time t) = false
suits_kind KindDint (Dint n) = true
suits_kind KindDint (Truth b) = false
suits_kind KindDint (Time t) = false
suits_kind KindTime (Time t) = true
suits_kind KindTime (Truth b) = false
suits_kind KindTime (Dint n) = false

abbrev pub suits_type : Option VariableType → Value → Bool
suits_type None value = false
suits_type (Some (Elementary kind)) value = suits_kind kind value
suits_type (Some (Standard block)) value = false
suits_type (Some (Block name)) value = false

abbrev pub initial_checks : List ProgramUnit → Declaration → List Check
initial_checks before d = elim d.initial [ Some initial ↦ asks 303 initial.line (suits_type (type_named before d.type_name.name) initial.value) ∷ [] | None ↦ [] ]

-- the greatest number of variables in a unit, and of places in a frame
abbrev pub most_variables : ℕ
most_variables = 256

abbrev pub most_places : ℕ
most_places = 4096

-- 306: not too many variables in a unit, nor places in a frame, counted with each name; `taken` are the variables and the
-- places that are taken before
pub record Taken : Type 0 where
  pub variables : ℕ
  pub places : ℕ

abbrev pub places_of_type : List ProgramUnit → Name → ℕ
places_of_type before type_name = length (variable_places (block_places before) (type_named before type_name) None)

abbrev pub has_capacity : Taken → Bool
has_capacity taken = nat_le taken.variables most_variables && nat_le taken.places most_places

-- what is taken once a number of names of a type is declared
abbrev pub and_more : Taken → ℕ → ℕ → Taken
and_more taken count size = record { variables = taken.variables + count; places = taken.places + count * size }

abbrev pub capacity_checks : Taken → ℕ → List Word → List Check
capacity_checks taken size words = map (λ position. asks 306 position.item.line (has_capacity (and_more taken (length position.before + 1) size))) (positions_of words)

-- the rules of a declaration, after the names and the places that the unit has taken before
abbrev pub declaration_checks : Text → List ProgramUnit → List Name → Taken → Declaration → List Check
declaration_checks text before names taken d =
    names_are_new names d.names ++ type_checks text before d ++ initial_checks before d ++ capacity_checks taken (places_of_type before d.type_name.name) d.names

-- the names of declarations, and what they take on top of what is taken
abbrev pub names_declared : List Declaration → List Name
names_declared ds = flat_map (λ d. map name_of_word d.names) ds

abbrev pub taken_by : List ProgramUnit → Taken → List Declaration → Taken
taken_by before taken [] = taken
taken_by before taken (d ∷ ds) = taken_by before (and_more taken (length d.names) (places_of_type before d.type_name.name)) ds

-- the program's frame begins with the directly represented variables
abbrev pub taken_at_first : ProgramUnit → Taken
taken_at_first unit = record { variables = 0; places = if is_block unit then 0 else length direct_variables }

abbrev pub unit_declaration_checks : Text → List ProgramUnit → ProgramUnit → List Check
unit_declaration_checks text before unit =
    flat_map (λ position. declaration_checks text before (names_declared position.before) (taken_by before (taken_at_first unit) position.before) position.item) (positions_of unit.declarations)

-- 305: no address in a function block; 304: an address that there is
abbrev pub address_check : ProgramUnit → Word → Check
address_check unit word = if is_block unit then asks 305 word.line false else asks 304 word.line (is_some (variable_at word.name))

abbrev pub term_checks : ProgramUnit → Term → List Check
term_checks unit (Address word) = address_check unit word ∷ []
term_checks unit (Constant value) = []
term_checks unit (NameOf name) = []
term_checks unit (Field instance field) = []

abbrev pub step_checks : ProgramUnit → Step → List Check
step_checks unit (Load negated operand) = term_checks unit operand
step_checks unit (Store storing target) = term_checks unit target
step_checks unit (Apply operator operand) = term_checks unit operand
step_checks unit (Call condition instance arguments) = flat_map (λ argument. term_checks unit argument.actual) arguments
step_checks unit Negate = []
step_checks unit (Jump condition label) = []
step_checks unit (Return condition) = []

abbrev pub label_checks : Option Word → List Check
label_checks None = []
label_checks (Some word) = not_reserved word ∷ []

abbrev pub operand_checks : ProgramUnit → Option Term → List Check
operand_checks unit None = []
operand_checks unit (Some operand) = term_checks unit operand

-- each label and address of a body
abbrev pub body_name_checks : ProgramUnit → Lines → List Check
body_name_checks unit End = []
body_name_checks unit (Alone label rest) = not_reserved label ∷ body_name_checks unit rest
body_name_checks unit (Plain label line step rest) = label_checks label ++ step_checks unit step ++ body_name_checks unit rest
body_name_checks unit (Nested label line operator operand inside close rest) =
    label_checks label ++ operand_checks unit operand ++ body_name_checks unit inside ++ body_name_checks unit rest

-- a unit: its name, its declarations, its body
abbrev pub unit_checks : Text → List ProgramUnit → ProgramUnit → List Check
unit_checks text before unit =
    not_reserved unit.name ∷ is_new (map (λ u. u.name.name) before) unit.name ∷ unit_declaration_checks text before unit ++ body_name_checks unit unit.body

-- what the pass on declarations asks of a text
abbrev pub text_declaration_checks : Text → List Check
text_declaration_checks text = flat_map (λ position. unit_checks text position.before position.item) (positions_of text)
