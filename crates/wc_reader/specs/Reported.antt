-- What a result of the reader says of a text, also of one that it refuses, and which units are programs.
use Rattle.std.specs.Prelude.{Bool, true, false, ◌≡◌, ℕ, List, ◌⊎◌, Option, None, Result, Ok, Err}
use Rattle.wc_model.specs.declared.source.Unit.{Unit as CodeUnit}
use Rattle.wc_model.specs.declared.source.UnitKind.TheVariants.{FunctionBlock, Program}
use Rattle.wc_lexer.specs.Spans.{NeedsMemory}
use Rattle.wc_model.specs.Definitions.{IsMisread, IsRead, ReadingFault, number_of, IsFirstTokenFault, Text, text_view, Mark}
use Rattle.wc_model.specs.declared.fault.Fault.{Fault}
use Rattle.wc_model.specs.declared.fault.Fault.TheVariants.{Memory, Refused}
use Rattle.wc_laws_grammar.specs.Moves.{Raised, State}
use Rattle.wc_model.specs.declared.source.Source.{Source}
use Rattle.wc_text_bodies.specs.Views.{walk}

-- whether a unit is a program
abbrev pub is_program : CodeUnit → Bool
is_program unit = elim unit.kind [ FunctionBlock ↦ false | Program ↦ true ]

-- the fault of that number is the first of the tokens, or the first in them
abbrev pub IsFirstOf : List ℕ → ℕ → ℕ → Type 0
IsFirstOf bytes number place = IsFirstTokenFault bytes number place ⊎ ((fault : ReadingFault) × (number ≡ number_of fault) × IsMisread bytes fault place)

-- The bytes have this first fault, and are read as no text.
pub record IsUnread (bytes : List ℕ) (number place : ℕ) : Type 0 where
  pub first : IsFirstOf bytes number place
  pub unread : (text : Text) → ¬ (IsRead bytes text)

-- what a refusal says; out of memory says that memory is needed for a token
abbrev pub IsRefusedAs : List ℕ → Fault → Type 0
IsRefusedAs bytes Memory = NeedsMemory bytes
IsRefusedAs bytes (Refused number place) = IsUnread bytes number place

-- what was found, by its number and its line
pub record IsRaisedAs (outcome : Result Text Raised) (number place : ℕ) : Type 0 where
  pub raised : Raised
  pub outcome_is : outcome ≡ Err raised
  pub number_is : number ≡ number_of raised.fault
  pub place_is : place ≡ raised.line

-- the fault is what was found; out of memory says nothing
abbrev pub ReportsFault : Result Text Raised → Fault → Type 0
ReportsFault outcome Memory = Unit {0}
ReportsFault outcome (Refused number place) = IsRaisedAs outcome number place

-- the source is the text, or the fault is what was found
abbrev pub ReportsReading : Result Text Raised → Result Source Fault → Type 0
ReportsReading outcome (Ok source) = outcome ≡ Ok (text_view source)
ReportsReading outcome (Err fault) = ReportsFault outcome fault

-- the fault says that nothing follows a token of that line; out of memory says nothing
abbrev pub IsUnexpected : Option State → (line : ℕ) → Fault → Type 0
IsUnexpected next line Memory = Unit {0}
IsUnexpected next line (Refused number place) = (next ≡ None) × (number ≡ 201) × (place ≡ line)

-- A walk that is at that state stops there at the next token: what it meets has this number and line.
pub record IsStoppedAt (state : State) (marks : List Mark) (number place : ℕ) : Type 0 where
  pub raised : Raised
  pub stops : (last : ℕ) → walk state marks last ≡ record { state = state; reported = Err raised }
  pub number_is : number ≡ number_of raised.fault
  pub place_is : place ≡ raised.line

-- the fault is what stops the walk at the next token; out of memory says nothing
abbrev pub StopsWith : State → List Mark → Fault → Type 0
StopsWith state marks Memory = Unit {0}
StopsWith state marks (Refused number place) = IsStoppedAt state marks number place
