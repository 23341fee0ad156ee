-- What tokens complete a section of declarations from a place in it. Line ends are passed over, and are in none of these.
use Rattle.std.specs.Prelude.{◌≡◌, List, [], ◌∷◌, ◌++◌, Some}
use Rattle.wc_laws_grammar.specs.Moves.{InDeclaration, Undeclared, AfterNames, AfterComma, AfterColon, AfterType, AfterAssign, AfterValue}
use Rattle.wc_model.specs.Definitions.{symbol, declaration, initial_value, IsLiteral, IsOn, Language, nothing, one, ◌then◌, optional, each, Mark, Comma, Colon, Semicolon, IsWord, Word, Declaration}
use Rattle.wc_model.specs.declared.source.Initial.{Initial}
use Rattle.wc_model.specs.declared.source.Section.{Section}

-- declarations
abbrev pub declarations_of : Section → List Declaration → Language Mark
declarations_of section ds = each (declaration section) ds

-- the end of a declaration, and more of them
abbrev pub from_end : Section → List Declaration → Language Mark
from_end section more = symbol Semicolon then declarations_of section more

-- from after its type
abbrev pub from_initial : Section → Declaration → List Declaration → Language Mark
from_initial section d more = optional initial_value d.initial then from_end section more

-- from its type
abbrev pub from_type : Section → Declaration → List Declaration → Language Mark
from_type section d more = one (IsWord d.type_name) then from_initial section d more

-- further names
abbrev pub more_names : List Word → Language Mark
more_names words = each (λ next. symbol Comma then one (IsWord next)) words

-- from after a name
abbrev pub from_names : Section → List Word → Declaration → List Declaration → Language Mark
from_names section others d more = more_names others then symbol Colon then from_type section d more

-- what completes declarations, of which the first may have started
abbrev pub declared_rest : Section → InDeclaration → List Declaration → Language Mark
declared_rest section Undeclared ds tokens = declarations_of section ds tokens
declared_rest section place [] tokens = nothing tokens
declared_rest section (AfterNames names) (d ∷ more) tokens =
    (others : List Word) × (d.section ≡ section) × (d.names ≡ names ++ others) × from_names section others d more tokens
declared_rest section (AfterComma names) (d ∷ more) tokens =
    (word : Word) × (others : List Word) × (d.section ≡ section) × (d.names ≡ names ++ word ∷ others) × (one (IsWord word) then from_names section others d more) tokens
declared_rest section (AfterColon names) (d ∷ more) tokens = (d.section ≡ section) × (d.names ≡ names) × from_type section d more tokens
declared_rest section (AfterType names type_name) (d ∷ more) tokens =
    (d.section ≡ section) × (d.names ≡ names) × (d.type_name ≡ type_name) × from_initial section d more tokens
declared_rest section (AfterAssign names type_name) (d ∷ more) tokens =
    (initial : Initial) × (d ≡ record { section = section; names = names; type_name = type_name; initial = Some initial })
    × (one (IsOn initial.line (IsLiteral initial.value)) then from_end section more) tokens
declared_rest section (AfterValue names type_name initial) (d ∷ more) tokens =
    (d ≡ record { section = section; names = names; type_name = type_name; initial = Some initial }) × from_end section more tokens
