-- What a diagnostic promises of a refusal.
use Rattle.std.specs.Prelude.{◌≡◌, ◌≤◌, ℕ, List, [], None, IfSome, length, min}
use Rattle.wc_diag_spans.specs.OffendingTokens.{IsOffendingBy, IsStoppedBy}
use Rattle.wc_diag_spans.specs.Rows.{MeansField, shown_row}
use Rattle.wc_diag_spans.specs.Lines.{ShowsLine, known_line, line_of_part}
use Rattle.wc_diag_spans.specs.declared.diagnostic.Diagnostic.{Diagnostic}
use Rattle.wc_diag_spans.specs.declared.diagnostic.Span.{Span}
use Rattle.wc_diag_spans.specs.declared.refusal.Evidence.{Evidence}
use Rattle.wc_diag_spans.specs.declared.refusal.Evidence.TheVariants.{Nothing, Text, Row, Names}
use Rattle.wc_diag_spans.specs.declared.refusal.RefusalDetails.{RefusalDetails}
use Rattle.wc_model.specs.Run.Log.{Record}
use Rattle.wc_record.specs.Reported.{fields_reported}

-- no offending slice is outside the line that is shown
abbrev pub IsWithin : Diagnostic → Type 0
IsWithin diagnostic = IfSome diagnostic.span (λ span. span.start ≤ length diagnostic.shown.items)

-- what is found in the current text: the line of the part, if the text has it, with the offending slice in it
pub record FindsIn (refusal : RefusalDetails) (text : List ℕ) (diagnostic : Diagnostic) : Type 0 where
  pub shows : ShowsLine text diagnostic.line diagnostic.shown.items
  pub part : (found : ℕ) × (diagnostic.line ≡ known_line text (line_of_part refusal.part refusal.place found))
  pub stopped : IsStoppedBy refusal.part refusal.number text diagnostic
  pub offending : IsOffendingBy refusal.part refusal.number text diagnostic

-- it begins where another span does, or where the line that is shown ends before that
pub record IsCutTo (shown : List ℕ) (found span : Span) : Type 0 where
  pub start : span.start ≡ min found.start (length shown)
  pub size : span.length ≡ found.length

-- what is found in the current row: its fields, and the offending one
pub record FindsRow (number : ℕ) (fields : Record) (diagnostic : Diagnostic) : Type 0 where
  pub line : diagnostic.line ≡ 1
  pub shows : diagnostic.shown.items ≡ shown_row fields
  pub offending : IfSome diagnostic.span (λ span. (found : Span) × MeansField number fields found × IsCutTo diagnostic.shown.items found span)

-- what is found in the current list of names: the list
pub record FindsName (list : List ℕ) (diagnostic : Diagnostic) : Type 0 where
  pub line : diagnostic.line ≡ 1
  pub shows : diagnostic.shown.items ≡ list

-- what is found in what is available; nothing if that is nothing
abbrev pub FindsBy : RefusalDetails → Evidence → Diagnostic → Type 0
FindsBy refusal Nothing diagnostic = (diagnostic.line ≡ 0) × (diagnostic.span ≡ None) × (diagnostic.shown.items ≡ [])
FindsBy refusal (Text text) diagnostic = FindsIn refusal text.now diagnostic
FindsBy refusal (Row row) diagnostic = FindsRow refusal.number (fields_reported row.now) diagnostic
FindsBy refusal (Names list start length program) diagnostic = FindsName list.now diagnostic

pub record Finds (refusal : RefusalDetails) (diagnostic : Diagnostic) : Type 0 where
  pub found : FindsBy refusal refusal.evidence diagnostic
  pub within : IsWithin diagnostic
