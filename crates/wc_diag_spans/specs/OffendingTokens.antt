-- The offending slice on a line of a program's text.
use Rattle.std.specs.Prelude.{◌≡◌, ◌≤◌, ◌<◌, ℕ, List, Some, IfSome, length, min}
use Rattle.wc_diag_spans.specs.Lines.{column_at}
use Rattle.wc_diag_spans.specs.declared.diagnostic.Diagnostic.{Diagnostic}
use Rattle.wc_diag_spans.specs.declared.diagnostic.Span.{Span}
use Rattle.wc_job.specs.declared.input.Input.{Input}
use Rattle.wc_job.specs.declared.input.Input.TheVariants.{Program, Next}
use Rattle.wc_model.specs.declared.fault.Fault.TheVariants.{Refused}
use Rattle.wc_diag_places.specs.LaterSpans.{IsLaterSpan}
use Rattle.wc_diag_stops.specs.ReadingSpans.{IsAt, StopsReading}
use Rattle.wc_diag_texts.specs.declared.expected.Expected.{Expected}

-- the reader stops there with the fault of that number on that line: the slice begins after `column`
-- bytes of its line, and has `count`
pub record IsStop (text : List ℕ) (number line column count : ℕ) : Type 0 where
  pub start : ℕ
  pub expected : Expected
  pub stops : StopsReading text (Refused number line) start count expected
  pub column_is : column ≡ column_at text start

-- the slice begins there, or where the shown line ends before it
abbrev pub MeansStop : List ℕ → ℕ → ℕ → List ℕ → Span → Type 0
MeansStop text number line shown span =
    (column : ℕ) × IsStop text number line column span.length × (span.start ≡ min column (length shown))

-- what a refusal of the tokens or of the reading refers to: the slice at which the reader stops
abbrev pub StopsProgram : ℕ → List ℕ → Diagnostic → Type 0
StopsProgram number text diagnostic =
    number < 300 → IfSome diagnostic.span (λ span. MeansStop text number diagnostic.line diagnostic.shown.items span)

abbrev pub IsStoppedBy : Input → ℕ → List ℕ → Diagnostic → Type 0
IsStoppedBy Program number text diagnostic = StopsProgram number text diagnostic
IsStoppedBy Next number text diagnostic = StopsProgram number text diagnostic
IsStoppedBy part number text diagnostic = Unit {0}

-- the slice at which the reader stops, while the line is not cut out yet
abbrev pub HasStop : List ℕ → ℕ → ℕ → Diagnostic → Type 0
HasStop text number line diagnostic =
    IfSome diagnostic.span (λ span. IsStop text number line span.start span.length)

-- a pass after reading refuses the text there with the fault of that number on that line: the slice begins after `column`
-- bytes of its line, and has `count`, and what is quoted is there
pub record IsLaterOperand (text : List ℕ) (number line column count : ℕ) (quoted : List ℕ) : Type 0 where
  pub start : ℕ
  pub refuses : IsLaterSpan text number line start count
  pub column_is : column ≡ column_at text start
  pub represents : IsAt text start quoted

-- the slice begins there, or where the shown line ends before it
abbrev pub MeansSlice : List ℕ → ℕ → ℕ → List ℕ → List ℕ → Span → Type 0
MeansSlice text number line shown quoted span =
    (column : ℕ) × IsLaterOperand text number line column span.length quoted × (span.start ≡ min column (length shown))

-- what a later refusal of that number refers to in its part: the slice at which a pass after reading refuses
abbrev pub IsOfProgram : ℕ → List ℕ → Diagnostic → Type 0
IsOfProgram number text diagnostic =
    300 ≤ number → IfSome diagnostic.span (λ span. MeansSlice text number diagnostic.line diagnostic.shown.items diagnostic.subject.items span)

abbrev pub IsOffendingBy : Input → ℕ → List ℕ → Diagnostic → Type 0
IsOffendingBy Program number text diagnostic = IsOfProgram number text diagnostic
IsOffendingBy Next number text diagnostic = IsOfProgram number text diagnostic
IsOffendingBy part number text diagnostic = Unit {0}

-- the slice at which a pass after reading refuses, while the line is not cut out yet
abbrev pub HasLaterSpan : List ℕ → ℕ → ℕ → Diagnostic → Type 0
HasLaterSpan text number line diagnostic =
    IfSome diagnostic.span (λ span. IsLaterOperand text number line span.start span.length diagnostic.subject.items)

-- a span that is kept on a line is the one that was found, or is at the line's end
pub record IsKept (old new : Diagnostic) (line : ℕ) (span : Span) : Type 0 where
  pub found : Span
  pub was : old.span ≡ Some found
  pub on : new.line ≡ line
  pub start : span.start ≡ min found.start (length new.shown.items)
  pub size : span.length ≡ found.length
  pub quoted : new.subject.items ≡ old.subject.items
