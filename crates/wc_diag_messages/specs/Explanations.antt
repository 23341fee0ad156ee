-- What is said of a refusal or a warning, for people: the number, what is named, the line, the column, the snippet and
-- the page are pinned; the words between them are not (the profile's own).
use Rattle.std.specs.Prelude.{◌≡◌, ℕ, ◌+◌, ◌-◌, ◌&&◌, min, Bool, true, false, nat_lt, List, [], ◌∷◌, ◌++◌, codes, length, take, if◌then◌else◌}
use Rattle.wc_diag_spans.specs.Finds.{Finds, IsWithin}
use Rattle.wc_job.specs.declared.input.Input.{Input}
use Rattle.wc_job.specs.declared.input.Input.TheVariants.{Program, Next}
use Rattle.wc_diag_spans.specs.declared.refusal.RefusalDetails.{RefusalDetails}
use Rattle.wc_diag_messages.specs.Snippets.{snippet_text}
use Rattle.wc_diag_messages.specs.Locations.{alongside_text, line_text, margin_text, number_text, place_text}
use Rattle.wc_diag_texts.specs.Plain.{HasNoControls, IsShown, shown_text}
use Rattle.wc_diag_messages.specs.declared.parts.Parts.{Parts}
use Rattle.wc_diag_messages.specs.declared.parts.Severity.{Severity}
use Rattle.wc_diag_messages.specs.declared.parts.Severity.TheVariants.{Error, Warning}

-- the part is a program
abbrev pub is_program : Input → Bool
is_program Program = true
is_program Next = true
is_program part = false

-- the line that number of lines below others; none is above 4294967295
abbrev pub line_under : ℕ → ℕ → ℕ
line_under above line = min (above + line) 4294967295

-- the line in what is named, if this one was found (0: none); else that of a program's refusal
abbrev pub named_line : RefusalDetails → ℕ → ℕ
named_line refusal found =
    if nat_lt 0 found then line_under refusal.above found
    else if is_program refusal.part && nat_lt 0 refusal.place
    then line_under refusal.above refusal.place
    else 0

-- the number of bytes of a slice of that length that are left out if 120 are quoted, if any are
abbrev pub left_out_text : ℕ → List ℕ
left_out_text long =
    if nat_lt 120 long
    then shown_text (codes "(and ") ++ number_text (long - 120)
    ++ shown_text (codes " bytes more) ")
    else []

-- the slice of the text with which the first line begins, 120 bytes of it at most, between
-- backquotes, if there is one
abbrev pub quoted_text : List ℕ → List ℕ
quoted_text [] = []
quoted_text (byte ∷ rest) =
    shown_text (codes "`") ++ shown_text (take 120 (byte ∷ rest)) ++ shown_text (codes "`")
    ++ shown_text (codes " ") ++ left_out_text (length (byte ∷ rest))

-- what is wrong, in words: the slice that is quoted, and what is said of it
abbrev pub QuotesAndSays : List ℕ → List ℕ → Type 0
QuotesAndSays subject reported = (said : List ℕ) × IsShown said × (reported ≡ quoted_text subject ++ said)

-- these parts are what is known of the refusal: what is quoted is pinned, the rest is words
pub record IsKnown (refusal : RefusalDetails) (parts : Parts) : Type 0 where
  pub found : Finds refusal parts.diagnostic
  pub says : QuotesAndSays parts.diagnostic.subject.items parts.reported.bytes.items
  pub severity_is : parts.severity ≡ Error
  pub number_is : parts.number ≡ refusal.number
  pub line_is : parts.line ≡ named_line refusal parts.diagnostic.line
  pub place_is : parts.place.bytes.items ≡ place_text refusal.in_job refusal.part refusal.place
  pub expected_are : IsShown parts.expected.bytes.items
  pub advice_is : IsShown parts.advice.bytes.items

-- the offending slice is on its line, and the words are on one line
pub record IsPrintable (parts : Parts) : Type 0 where
  pub within : IsWithin parts.diagnostic
  pub reported : HasNoControls parts.reported.bytes.items
  pub place : HasNoControls parts.place.bytes.items
  pub advice : HasNoControls parts.advice.bytes.items

-- what comes before the number: that of a warning is after its W
abbrev pub opening : Severity → List ℕ
opening Error = codes "error["
opening Warning = codes "warning[W"

-- the number
abbrev pub numbered : Severity → ℕ → List ℕ
numbered severity number = shown_text (opening severity) ++ number_text number ++ shown_text (codes "]: ")

-- the first line: the number, and what is wrong
abbrev pub headline : Parts → List ℕ
headline parts = numbered parts.severity parts.number ++ parts.reported.bytes.items ++ (10 ∷ [])

-- the second line: what is named, the line in it, and what follows it
abbrev pub place_line : List ℕ → List ℕ → ℕ → List ℕ → List ℕ
place_line margin name line alongside =
    margin ++ shown_text (codes "--> ") ++ shown_text name ++ line_text line ++ alongside ++ (10 ∷ [])

-- what comes before the number of the page that says more
abbrev pub page_opening : Severity → List ℕ
page_opening Error = codes " (run `narbeddo explain "
page_opening Warning = codes " (run `narbeddo explain W"

-- which page says more
abbrev pub page_text : Severity → ℕ → List ℕ
page_text severity number =
    shown_text (page_opening severity) ++ number_text number
    ++ shown_text (codes "` for more)") ++ (10 ∷ [])

-- the last line: what to write instead, and the page that says more
abbrev pub help_line : Parts → List ℕ
help_line parts =
    shown_text (codes "help: ") ++ parts.advice.bytes.items ++ page_text parts.severity parts.number

-- a message about these parts of what has that name
abbrev pub long_text : List ℕ → Parts → List ℕ
long_text name parts =
    headline parts
    ++ place_line (margin_text parts.line) name parts.line
    (alongside_text parts.diagnostic.shown.items parts.diagnostic.span parts.place.bytes.items)
    ++ snippet_text parts.line parts.diagnostic.shown.items parts.diagnostic.span parts.expected.bytes.items
    ++ help_line parts
