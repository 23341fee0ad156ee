-- What is reported, in each of its formats. The short format is that of compilers, which editors read; the object is
-- JSON (RFC 8259), its members the profile's own.
use Rattle.std.specs.Prelude.{◌≡◌, ℕ, ◌+◌, ◌==◌, min, true, List, [], ◌∷◌, ◌++◌, Option, Some, None, codes, decimal, length, if◌then◌else◌, IsUtf8}
use Rattle.std.specs.List.{list_all}
use Rattle.json.specs.Lex as json
use Rattle.json.specs.Print.{print}
use Rattle.json.specs.Token as json_token
use Rattle.json.specs.Token.{Token}
use Rattle.wc_diag_spans.specs.declared.diagnostic.Span.{Span}
use Rattle.wc_diag_spans.specs.declared.refusal.RefusalDetails.{RefusalDetails}
use Rattle.wc_diag_messages.specs.Explanations.{IsKnown, long_text, numbered}
use Rattle.wc_diag_messages.specs.Locations.{column_text, first_column, line_text}
use Rattle.wc_diag_texts.specs.Plain.{IsOneLine, acts_nowhere, column_of, is_plain, shown_text, words_after}
use Rattle.wc_diag_messages.specs.declared.parts.Parts.{Parts}
use Rattle.wc_diag_messages.specs.declared.parts.Severity.{Severity}
use Rattle.wc_diag_messages.specs.declared.parts.Severity.TheVariants.{Error, Warning}
use Rattle.wc_diag_texts.specs.declared.format.Format.{Format}
use Rattle.wc_diag_texts.specs.declared.format.Format.TheVariants.{Long, Short, Json}

-- the line and the column, if the line is known; else the place by which a refusal is counted
abbrev pub position_text : Parts → List ℕ
position_text parts =
    if parts.line == 0 then words_after (shown_text (codes ":")) parts.place.bytes.items
    else line_text parts.line ++ column_text parts.diagnostic.shown.items parts.diagnostic.span

-- what is wrong, and after it what to write instead, if that is known
abbrev pub helped_text : List ℕ → List ℕ → List ℕ
helped_text reported advice = reported ++ words_after (shown_text (codes "; help: ")) advice

-- what is named, where, the number, what is wrong and what to write instead
abbrev pub short_text : List ℕ → Parts → List ℕ
short_text name parts =
    shown_text name ++ position_text parts ++ shown_text (codes ": ") ++ numbered parts.severity parts.number
    ++ helped_text parts.reported.bytes.items parts.advice.bytes.items

-- these parts on one line
pub record IsShortLine (name : List ℕ) (parts : Parts) (bytes : List ℕ) : Type 0 where
  pub all : bytes ≡ short_text name parts ++ (10 ∷ [])
  pub one : IsOneLine bytes

-- a name as it is if it is UTF-8; else as a message shows it
pub record IsNameOf (name text : List ℕ) : Type 0 where
  pub as_it_is : IsUtf8 name → text ≡ name
  pub shown : (IsUtf8 name → ⊥) → text ≡ shown_text name

-- a member of an object
abbrev pub text_member : List ℕ → List ℕ → List Token
text_member name text = json_token.key name ∷ json_token.string text ∷ []

-- a member of an object, or none if the text is empty
abbrev pub text_if_any : List ℕ → List ℕ → List Token
text_if_any name [] = []
text_if_any name (byte ∷ rest) = text_member name (byte ∷ rest)

-- a member of an object
abbrev pub number_member : List ℕ → ℕ → List Token
number_member name value = json_token.key name ∷ json_token.number (decimal value) ∷ []

-- a member of an object, or none if the number is 0
abbrev pub number_if_any : List ℕ → ℕ → List Token
number_if_any name value = if value == 0 then [] else number_member name value

-- the column after it on that line; 0 if there is none
abbrev pub column_after : Option Span → List ℕ → ℕ
column_after None line = 0
column_after (Some span) line = column_of line (min (span.start + span.length) (length line))

-- where it is
abbrev pub position_members : Parts → List Token
position_members parts =
    number_if_any (codes "line") parts.line
    ++ number_if_any (codes "column") (first_column parts.diagnostic.shown.items parts.diagnostic.span)
    ++ number_if_any (codes "endColumn") (column_after parts.diagnostic.span parts.diagnostic.shown.items)
    ++ text_if_any (codes "place") parts.place.bytes.items

-- a warning says that it is one
abbrev pub severity_members : Severity → List Token
severity_members Error = []
severity_members Warning = text_member (codes "severity") (codes "warning")

-- the words before the number left out: of refusals a least number is known
abbrev pub words_before_count : Severity → List ℕ
words_before_count Error = codes "and at least "
words_before_count Warning = codes "and "

-- what is wrong, and what to write instead
abbrev pub word_members : Parts → List Token
word_members parts =
    severity_members parts.severity ++ number_member (codes "number") parts.number
    ++ text_member (codes "sentence") parts.reported.bytes.items ++ text_if_any (codes "hint") parts.advice.bytes.items

-- all of the object
abbrev pub object_tokens : Parts → List ℕ → List Token
object_tokens parts name =
    (json_token.begin_object ∷ text_member (codes "file") name)
    ++ position_members parts ++ word_members parts ++ (json_token.end_object ∷ [])

-- these begin an object of what has that name
pub record BeginsObject (name : List ℕ) (tokens : List Token) : Type 0 where
  pub text : List ℕ
  pub name_is : IsNameOf name text
  pub tokens_are : tokens ≡ json_token.begin_object ∷ text_member (codes "file") text

-- an object with its end, as a line, of which a reader takes the same
pub record IsEnded (tokens : List Token) (bytes : List ℕ) : Type 0 where
  pub reads : json.tokens (print (tokens ++ (json_token.end_object ∷ []))) ≡ tokens ++ (json_token.end_object ∷ [])
  pub all : bytes ≡ print (tokens ++ (json_token.end_object ∷ [])) ++ (10 ∷ [])

-- an object of what has that name, as JSON on one line, of which a reader takes these members
pub record IsObjectOf (members : List ℕ → List Token) (name bytes : List ℕ) : Type 0 where
  pub text : List ℕ
  pub name_is : IsNameOf name text
  pub tokens : List Token
  pub tokens_are : tokens ≡ members text
  pub reads : json.tokens (print tokens) ≡ tokens
  pub all : bytes ≡ print tokens ++ (10 ∷ [])
  pub one : IsOneLine bytes

-- these parts of what has that name in that format
abbrev pub Prints : Format → List ℕ → Parts → List ℕ → Type 0
Prints Long name parts bytes = bytes ≡ long_text name parts
Prints Short name parts bytes = IsShortLine name parts bytes
Prints Json name parts bytes = IsObjectOf (object_tokens parts) name bytes

-- a refusal in that format
pub record Reports (format : Format) (refusal : RefusalDetails) (bytes : List ℕ) : Type 0 where
  pub parts : Parts
  pub known : IsKnown refusal parts
  pub printed : Prints format refusal.name.now parts bytes

-- in the formats for people and editors, no byte is a control character of ASCII but line feeds
abbrev pub IsPlainIn : Format → List ℕ → Type 0
IsPlainIn Json bytes = Unit {0}
IsPlainIn format bytes = list_all is_plain bytes ≡ true

-- and no character acts on a terminal or an editor, or is not seen
abbrev pub IsCalmIn : Format → List ℕ → Type 0
IsCalmIn Json bytes = Unit {0}
IsCalmIn format bytes = acts_nowhere bytes ≡ true
