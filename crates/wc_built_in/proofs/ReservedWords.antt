-- The reserved words of the table are those of the definition, and its types are among them.
use Rattle.wc_model.proofs.Common.{◌≡◌, true, List, refl, ap, ◌∙◌, list_all}
use Rattle.std.specs.Prelude.{option_and_then, map}
use Rattle.std.specs.Option.{is_some}
use Rattle.wc_model.specs.Definitions.{is_among, reserved_words, type_words, elementary_types, named_in, standard_blocks, Name}
use Rattle.wc_built_in.specs.Keywords.{elementary_for, keywords, standard_for, type_for}
use Rattle.wc_built_in.proofs.WordTables.{AreRead, found_in_part, same_words, some_among, is_allowed_in, words_in}

there : list_all (is_among reserved_words) (words_in keywords) ≡ true
there = refl

back : list_all (is_among (words_in keywords)) reserved_words ≡ true
back = refl

-- what has a meaning is reserved
pub reserved_is : (name : Name) → is_some (named_in keywords name) ≡ is_among reserved_words name
reserved_is name = some_among keywords name ∙ same_words (words_in keywords) reserved_words name there back

-- the elementary types
elementary_read : AreRead elementary_for keywords elementary_types
elementary_read = refl

elementary_hold : list_all (is_allowed_in elementary_for elementary_types) keywords ≡ true
elementary_hold = refl

pub elementary_is : (name : Name) → option_and_then elementary_for (named_in keywords name) ≡ named_in elementary_types name
elementary_is name = found_in_part elementary_for keywords elementary_types name elementary_read elementary_hold

-- the standard blocks
standard_read : AreRead standard_for keywords standard_blocks
standard_read = refl

standard_hold : list_all (is_allowed_in standard_for standard_blocks) keywords ≡ true
standard_hold = refl

pub standard_is : (name : Name) → option_and_then standard_for (named_in keywords name) ≡ named_in standard_blocks name
standard_is name = found_in_part standard_for keywords standard_blocks name standard_read standard_hold

-- both
abbrev type_rows : List (Name × Unit {0})
type_rows = map (λ word. (word, tt)) type_words

types_read : AreRead type_for keywords type_rows
types_read = refl

types_hold : list_all (is_allowed_in type_for type_rows) keywords ≡ true
types_hold = refl

pub types_are : (name : Name) → is_some (option_and_then type_for (named_in keywords name)) ≡ is_among type_words name
types_are name = ap is_some (found_in_part type_for keywords type_rows name types_read types_hold) ∙ some_among type_rows name
