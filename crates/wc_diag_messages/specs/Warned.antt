-- What is said of a warning, in each format: its number, the file, the line, the column, the name and the
-- snippet are pinned; the words between them are not (the profile's own).
use Rattle.std.specs.Prelude.{◌≡◌, ◌≤◌, ◌&&◌, ◌-◌, ℕ, Bool, true, List, [], ◌∷◌, ◌++◌, Option, None, IfSome, codes, drop, find, length, min, option_map, take, unwrap_or, nat_le, bytes_eq}
use Rattle.std.specs.Option.{option_map_or}
use Rattle.json.specs.Token as json_token
use Rattle.wc_diag_spans.specs.{IsWithin, column_at, line_of_number}
use Rattle.wc_diag_spans.specs.declared.diagnostic.Diagnostic.{Diagnostic}
use Rattle.wc_diag_spans.specs.declared.diagnostic.Span.{Span}
use Rattle.wc_diag_messages.specs.Formats.{IsObjectOf, Prints, number_member, severity_members, text_member, words_before_count}
use Rattle.wc_diag_messages.specs.Locations.{number_text}
use Rattle.wc_diag_texts.specs.Plain.{shown_text}
use Rattle.wc_diag_messages.specs.declared.parts.Parts.{Parts}
use Rattle.wc_diag_messages.specs.declared.parts.Severity.{Severity}
use Rattle.wc_diag_messages.specs.declared.parts.Severity.TheVariants as severity
use Rattle.wc_diag_texts.specs.declared.format.Format.{Format}
use Rattle.wc_diag_texts.specs.declared.format.Format.TheVariants.{Long, Short, Json}
use Rattle.wc_diag_warnings.specs.declared.warning.Warning.{Warning}
use Rattle.wc_lexer.specs.declared.shape.Token.{Token}

-- the name of which it is, between backquotes, if it is of one
abbrev pub named_text : List ℕ → List ℕ
named_text [] = []
named_text (byte ∷ rest) =
    (shown_text (codes "`") ++ shown_text (byte ∷ rest) ++ shown_text (codes "`"))
    ++ shown_text (codes " ")

-- the line of that number, without its end; empty if the text has none
abbrev pub shown_line : ℕ → List ℕ → List ℕ
shown_line line text = unwrap_or (line_of_number line text) []

-- where a token begins on its line, of which this is shown
abbrev pub start_on : (text : List ℕ) → Token → (line : List ℕ) → ℕ
start_on text token line = min (column_at text token.start) (length line)

-- a token is spelled as that name; with no name, any token
abbrev pub is_called : List ℕ → Token → Bool
is_called [] token = true
is_called (byte ∷ rest) token = bytes_eq token.text.now (byte ∷ rest)

-- a line has these bytes there
abbrev pub has_there : List ℕ → ℕ → List ℕ → Bool
has_there line start name = bytes_eq (take (length name) (drop start line)) name

-- a warning may be about this token: it is on the warning's line or below, and has its name, also in the line that is shown
abbrev pub is_warned : List ℕ → Warning → Token → Bool
is_warned text warning token =
    nat_le warning.line token.line
    && (is_called warning.name.now token && has_there (shown_line token.line text) (start_on text token (shown_line token.line text)) warning.name.now)

-- the token that a warning is about: the first such
abbrev pub warned_token : List ℕ → Warning → List Token → Option Token
warned_token text warning tokens = find (is_warned text warning) tokens

-- what is marked of a line from a byte on: a name; with no name the rest of the line
abbrev pub marked_span : List ℕ → ℕ → List ℕ → Span
marked_span [] start line = record { start = start; length = length line - start }
marked_span (byte ∷ rest) start line = record { start = start; length = length (byte ∷ rest) }

-- the name is there on the line; what has no name may be anywhere
abbrev pub IsNamedThere : List ℕ → List ℕ → Span → Type 0
IsNamedThere [] line span = Unit {0}
IsNamedThere (byte ∷ rest) line span = take span.length (drop span.start line) ≡ byte ∷ rest

-- the line that is shown of a warning about that token, if it is about one, with the token marked
pub record IsPlaced (text : List ℕ) (warning : Warning) (token : Option Token) (diagnostic : Diagnostic) : Type 0 where
  pub line_is : diagnostic.line ≡ option_map_or (λ found. found.line) token warning.line
  pub shows : diagnostic.shown.items ≡ shown_line diagnostic.line text
  pub span_is : diagnostic.span ≡ option_map (λ found. marked_span warning.name.now (start_on text found diagnostic.shown.items) diagnostic.shown.items) token

-- what is known of a warning: its line of the text, or one below it if its name is there, with its token marked, and what is said of
-- its name
pub record KnowsWarning (text : List ℕ) (tokens : List Token) (warning : Warning) (parts : Parts) : Type 0 where
  pub placed : IsPlaced text warning (warned_token text warning tokens) parts.diagnostic
  pub below : warning.line ≤ parts.diagnostic.line
  pub own : parts.diagnostic.span ≡ None → parts.diagnostic.line ≡ warning.line
  pub within : IsWithin parts.diagnostic
  pub represents : IfSome parts.diagnostic.span (IsNamedThere warning.name.now parts.diagnostic.shown.items)
  pub said : List ℕ
  pub reported_is : parts.reported.bytes.items ≡ named_text warning.name.now ++ shown_text said
  pub severity_is : parts.severity ≡ severity.Warning
  pub number_is : parts.number ≡ warning.number
  pub line_is : parts.line ≡ parts.diagnostic.line
  pub place_is : parts.place.bytes.items ≡ []
  pub expected_are : parts.expected.bytes.items ≡ []
  pub advice : List ℕ
  pub advice_is : parts.advice.bytes.items ≡ shown_text advice

-- a warning of the text of a file, with its tokens, in that format
pub record Warns (format : Format) (file text : List ℕ) (tokens : List Token) (warning : Warning) (bytes : List ℕ) : Type 0 where
  pub parts : Parts
  pub knows : KnowsWarning text tokens warning parts
  pub printed : Prints format file parts bytes

-- the object that says it
abbrev pub left_out_tokens : Severity → ℕ → List ℕ → List json_token.Token
left_out_tokens severity count name =
    (json_token.begin_object ∷ text_member (codes "file") name)
    ++ severity_members severity
    ++ number_member (codes "leftOut") count ++ (json_token.end_object ∷ [])

-- the number left out in words after these bytes, on a line
abbrev pub ReportsLeftOut : (before : List ℕ) → Severity → ℕ → List ℕ → Type 0
ReportsLeftOut before severity count bytes =
    (said : List ℕ)
    × (bytes ≡ before ++ shown_text (words_before_count severity) ++ number_text count ++ shown_text said ++ (10 ∷ []))

-- the number left out, in that format
abbrev pub LeavesOut : Format → List ℕ → Severity → ℕ → List ℕ → Type 0
LeavesOut Long file severity count bytes = ReportsLeftOut [] severity count bytes
LeavesOut Short file severity count bytes = ReportsLeftOut (shown_text file ++ shown_text (codes ": ")) severity count bytes
LeavesOut Json file severity count bytes = IsObjectOf (left_out_tokens severity count) file bytes
