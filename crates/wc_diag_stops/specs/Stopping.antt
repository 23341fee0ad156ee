-- What is said of where a walk stops, and of tokens with their places for their lines.
use Rattle.std.specs.Prelude.{◌≡◌, ℕ, List, length, Ok, Err}
use Rattle.wc_laws_grammar.specs.Moves.{Raised}
use Rattle.wc_lexer.specs.declared.shape.Token.{Token}
use Rattle.wc_model.specs.Definitions.{Text, last_line, number_of}
use Rattle.wc_model.specs.declared.fault.Fault.{Fault}
use Rattle.wc_model.specs.declared.fault.Fault.TheVariants.{Memory, Refused}
use Rattle.wc_text_bodies.specs.Views.{Stopping}
use Rattle.wc_diag_stops.specs.Allowed.{allowed, allowed_with}
use Rattle.wc_diag_stops.specs.ReadingSpans.{length_of, line_of, offending_at, start_of, token_at}
use Rattle.wc_diag_texts.specs.declared.expected.Expected.{Expected}
use Rattle.wc_diag_texts.specs.declared.expected.Expected.TheVariants.{Nothing as nothing}
use Rattle.wc_diag_stops.specs.declared.span.RefusalSpan.{RefusalSpan}

-- a token with its place for its line, and its line for its place
abbrev pub exchanged : Token → Token
exchanged token = record { shape = token.shape; text = token.text; start = token.line; line = token.start }

-- A walk stops by a fault of that number and line, in a state that expects these.
pub record IsRaisedWith (stopping : Stopping) (number place : ℕ) (expected : Expected) : Type 0 where
  pub raised : Raised
  pub reported_is : stopping.reported ≡ Err raised
  pub number_is : number ≡ number_of raised.fault
  pub place_is : place ≡ raised.line
  pub expected_is : expected ≡ allowed stopping.state

-- what a walk finds; out of memory says nothing
abbrev pub ReportsRaised : Stopping → Fault → Expected → Type 0
ReportsRaised stopping Memory expected = Unit {0}
ReportsRaised stopping (Refused number place) expected = IsRaisedWith stopping number place expected

-- A walk reads a text.
pub record ReadsText (stopping : Stopping) : Type 0 where
  pub text : Text
  pub reported_is : stopping.reported ≡ Ok text

-- The fault of that number that is found at that byte, with its line and its slice.
pub record IsOffendingAt (bytes : List ℕ) (tokens : List Token) (number place : ℕ) (there : Expected) (stop : RefusalSpan) : Type 0 where
  pub fault_is : stop.fault ≡ Refused number (line_of (token_at tokens place) (last_line bytes))
  pub start_is : stop.start ≡ start_of (offending_at tokens place stop.expected) (length bytes)
  pub length_is : stop.length ≡ length_of (offending_at tokens place stop.expected)
  pub expected_is : stop.expected ≡ allowed_with number there

-- what is found in tokens, with its line and its slice
abbrev pub IsStopAt : List ℕ → List Token → Fault → Expected → RefusalSpan → Type 0
IsStopAt bytes tokens Memory there stop = (stop.fault ≡ Memory) × (stop.expected ≡ nothing)
IsStopAt bytes tokens (Refused number place) there stop = IsOffendingAt bytes tokens number place there stop

-- what could be there is reported with an unexpected token alone
abbrev pub IsAllowedAs : Fault → Expected → Type 0
IsAllowedAs Memory expected = expected ≡ nothing
IsAllowedAs (Refused number place) expected = expected ≡ allowed_with number expected
