-- Laws of loading: any bytes are loaded or refused, never both, with one text or one refusal; a text that is loaded has one report.
-- How large it may be is by the number of the text's bytes. (The limits are the profile's own.)
use Rattle.std.specs.Prelude.{◌≡◌, ℕ, List, Option, ◌⊎◌, Bool, ◌+◌, ◌≤◌, [], ◌∷◌, length}
use Rattle.std.specs.List.{AllByRecursion}
use Rattle.wc_model.specs.Definitions.{Table, IsLoaded, IsRefused, Text, ProgramUnit, Step, Call, Lines, End, Alone, Plain, Nested, Declaration, Record, AnswersJob, AreWorstLines, IsUnitReport, most_units, Token, IsCut, most_bytes}
use Rattle.wc_model.specs.Language.Checks.{Position, positions_of}
use Rattle.wc_text_flat.specs.FlatPaths.{sources_of}

-- any bytes are loaded as a text, or refused
abbrev pub LoadedOrRefused : Type 0
LoadedOrRefused = (bytes : List ℕ)
    → ((text : Text) × IsLoaded bytes text) ⊎ ((number : ℕ) × (line : ℕ) × IsRefused bytes number line)

-- bytes that are loaded are not refused
abbrev pub NeverBoth : Type 0
NeverBoth = (bytes : List ℕ) (text : Text) (number line : ℕ)
    → IsLoaded bytes text → ¬ (IsRefused bytes number line)

-- bytes have one refusal at most
abbrev pub OneRefusal : Type 0
OneRefusal = (bytes : List ℕ) (number line other place : ℕ)
    → IsRefused bytes number line → IsRefused bytes other place → (number ≡ other) × (line ≡ place)

-- bytes are loaded as one text at most
abbrev pub OneText : Type 0
OneText = (bytes : List ℕ) (text other : Text) → IsLoaded bytes text → IsLoaded bytes other → text ≡ other

-- there is something of which this holds, and one thing alone
pub record HasOne {A : Type 0} (Holds : A → Type 0) : Type 0 where
  pub it : A
  pub holds : Holds it
  pub alone : (other : A) → Holds other → other ≡ it

-- a job of any bytes has one answer, its output and its status, whatever `toml` and `csv` read of bytes
abbrev pub OneAnswer : Type 0
OneAnswer = (table_of : List ℕ → Option Table) (records_of : List ℕ → List Record) (bytes : List ℕ)
    → HasOne (AnswersJob table_of records_of bytes)

-- the lines of a unit's worst path are one list
abbrev pub HasOneWorstPath : Position ProgramUnit → Type 0
HasOneWorstPath position = HasOne (AreWorstLines (record { before = position.before; unit = position.item }))

-- so it is for each unit of a text that is loaded
abbrev pub EachUnitHasOneWorstPath : Type 0
EachUnitHasOneWorstPath = (bytes : List ℕ) (text : Text) → IsLoaded bytes text → AllByRecursion HasOneWorstPath (positions_of text)

-- a text that is loaded has one report, with paths and without
abbrev pub OneReport : Type 0
OneReport = (bytes : List ℕ) (text : Text) (paths : Bool) → IsLoaded bytes text → HasOne (IsUnitReport paths text)

-- the arguments of an instruction: only a call has some
abbrev pub argument_count : Step → ℕ
argument_count (Call condition instance arguments) = length arguments
argument_count step = 0

-- the parts of a body: its lines, a label alone among them, and the arguments of its calls
abbrev pub body_parts : Lines → ℕ
body_parts End = 0
body_parts (Alone label rest) = 1 + body_parts rest
body_parts (Plain label line step rest) = 1 + argument_count step + body_parts rest
body_parts (Nested label line operator operand inside close rest) = 2 + body_parts inside + body_parts rest

-- the names that are declared
abbrev pub name_count : List Declaration → ℕ
name_count [] = 0
name_count (d ∷ ds) = length d.names + name_count ds

-- the parts of a text's tree: its units, the names that they declare, and the parts of their bodies
abbrev pub tree_parts : Text → ℕ
tree_parts [] = 0
tree_parts (unit ∷ units) = 1 + name_count unit.declarations + body_parts unit.body + tree_parts units

-- the flat lines of all bodies: one for each line of a text at which a flat line is
abbrev pub flat_count : Text → ℕ
flat_count [] = 0
flat_count (unit ∷ units) = length (sources_of unit.body) + flat_count units

-- a text of these bytes is no larger than they are
pub record IsSmall (bytes : List ℕ) (text : Text) : Type 0 where
  pub short : length bytes ≤ most_bytes
  pub units : length text ≤ most_units
  pub tree : tree_parts text ≤ length bytes
  pub flat : flat_count text ≤ length bytes

-- what bytes are loaded as is no larger than they are
abbrev pub LoadedTextsAreSmall : Type 0
LoadedTextsAreSmall = (bytes : List ℕ) (text : Text) → IsLoaded bytes text → IsSmall bytes text

-- a text has at most as many tokens as bytes
abbrev pub TokensAreFew : Type 0
TokensAreFew = (bytes : List ℕ) (tokens : List Token) → IsCut bytes tokens → length tokens ≤ length bytes
