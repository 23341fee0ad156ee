-- What a reserved word represents is found in the tables of the grammar.
use Rattle.std.proofs.Common.{◌≡◌, Bool, true, false, List, [], ◌∷◌, Option, Some, if◌then◌else◌, true≢false, refl, sym, ◌∙◌}
use Rattle.wc_model.proofs.Common.{option_and_then, list_all}
use Rattle.wc_built_in.proofs.WordTables.{AreRead, found_in_part, same_name_turned, is_allowed_in}
use Rattle.wc_built_in.specs.Keywords.{keywords}
use Rattle.wc_built_in.specs.declared.keyword.Keyword.{Keyword}
use Rattle.wc_laws_grammar.specs.Words.{found, operations, section_words, unit_kinds}
use Rattle.wc_text_lines.specs.Meanings.{operation_for, section_for, unit_for}
use Rattle.wc_model.specs.Definitions.{named_in, same_name, Name}

-- both ways to look a name up
found_is : {X : Type 0} (rows : List (Name × X)) (name : Name) → named_in rows name ≡ found rows name
found_is [] name = refl
found_is {X} (row ∷ rows) name = by (same_name row.0 name) (same_name name row.0) (same_name_turned row.0 name) (found_is rows name)
  where
    by : (a b : Bool) → a ≡ b → named_in rows name ≡ found rows name → (if◌then◌else◌ {A = Option X} a (Some row.1) (named_in rows name)) ≡ (if◌then◌else◌ {A = Option X} b (Some row.1) (found rows name))
    by true true e rest = refl
    by false false e rest = rest
    by true false e rest = absurd (true≢false e)
    by false true e rest = absurd (true≢false (sym e))

-- a table that is a part of all reserved words
part_is : {Y : Type 0} (f : Keyword → Option Y) (part : List (Name × Y)) (name : Name) → AreRead f keywords part → list_all (is_allowed_in f part) keywords ≡ true → option_and_then f (named_in keywords name) ≡ found part name
part_is f part name read all = found_in_part f keywords part name read all ∙ found_is part name

operations_read : AreRead operation_for keywords operations
operations_read = refl

operations_hold : list_all (is_allowed_in operation_for operations) keywords ≡ true
operations_hold = refl

pub operation_is : (name : Name) → option_and_then operation_for (named_in keywords name) ≡ found operations name
operation_is name = part_is operation_for operations name operations_read operations_hold

sections_read : AreRead section_for keywords section_words
sections_read = refl

sections_hold : list_all (is_allowed_in section_for section_words) keywords ≡ true
sections_hold = refl

pub section_is : (name : Name) → option_and_then section_for (named_in keywords name) ≡ found section_words name
section_is name = part_is section_for section_words name sections_read sections_hold

units_read : AreRead unit_for keywords unit_kinds
units_read = refl

units_hold : list_all (is_allowed_in unit_for unit_kinds) keywords ≡ true
units_hold = refl

pub unit_is : (name : Name) → option_and_then unit_for (named_in keywords name) ≡ found unit_kinds name
unit_is name = part_is unit_for unit_kinds name units_read units_hold
