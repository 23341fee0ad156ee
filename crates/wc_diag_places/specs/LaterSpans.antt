-- Where the passes after reading refuse a text, and the offending slice of it. (The profile's own.)
use Rattle.std.specs.Prelude.{◌≡◌, ◌-◌, ℕ, nat_lt, true, List, Some, None, slice_get, ◌⊎◌}
use Rattle.std.specs.List.{position_or_len}
use Rattle.wc_lexer.specs.declared.shape.Token.{Token}
use Rattle.wc_model.specs.Definitions.{Refusal, IsCostFault, body_fault, declaration_fault, Scope, ProgramUnit, Text, text_view}
use Rattle.wc_model.specs.declared.fault.Fault.{Fault}
use Rattle.wc_model.specs.declared.fault.Fault.TheVariants.{Memory, Refused}
use Rattle.wc_names.specs.Numbered.{IsUnit}
use Rattle.wc_diag_places.specs.Arguments.{IsArgument}
use Rattle.wc_diag_places.specs.OperandTokens.{IsOperandOf, is_listed, length_of_operand, line_at, on_line, operator_of, start_of_operand, tokens_from}
use Rattle.wc_diag_stops.specs.ReadingSpans.{AreReadByPlaces}
use Rattle.wc_diag_stops.specs.declared.span.RefusalSpan.{RefusalSpan}
use Rattle.wc_diag_places.specs.declared.spanned_source.SpannedSource.{SpannedSource}

-- the refusal of that number, asked at that place
abbrev pub refusal_at : ℕ → ℕ → Refusal
refusal_at number place = record { number = number; line = place }

-- the number of the unit that a place is in: of those that begin up to it the last
abbrev pub unit_number : Text → ℕ → ℕ
unit_number text place = position_or_len (λ (unit : ProgramUnit). nat_lt place unit.line) text - 1

-- no pass after reading refuses a text
pub record IsAccepted (text : Text) : Type 0 where
  pub declared : declaration_fault text ≡ None
  pub sound : body_fault text ≡ None
  pub costs : IsCostFault text None

-- a text breaks a rule of declarations or is too long in a unit, and this is the first fault of its passes
pub data IsTokenFault (text : Text) (number place : ℕ) : Type 0 where
  at_declarations : declaration_fault text ≡ Some (refusal_at number place) → IsTokenFault text number place
  at_costs : declaration_fault text ≡ None → body_fault text ≡ None → IsCostFault text (Some (refusal_at number place)) → IsTokenFault text number place

-- or a rule of bodies
pub record IsBodyFault (text : Text) (number place : ℕ) : Type 0 where
  pub declared : declaration_fault text ≡ None
  pub refused : body_fault text ≡ Some (refusal_at number place)

-- A refusal with the token whose place is given as its line: a name, a type, a literal, an address, a label, a unit's keyword.
pub record IsOneToken (text : Text) (number place : ℕ) (tokens operand_tokens : List Token) : Type 0 where
  pub fault : IsTokenFault text number place
  pub operand_is : operand_tokens ≡ operator_of tokens

-- A refusal with the offending slice of the instruction, or of the label or `)`, whose place is given as its line. If it has a
-- list, the slice is that of the very argument that breaks the rule.
pub record IsInInstruction (text : Text) (number place : ℕ) (tokens operand_tokens : List Token) : Type 0 where
  pub fault : IsBodyFault text number place
  pub offending : List Token
  pub means : IsOperandOf number tokens offending
  pub argument : (scope : Scope) → IsUnit text (unit_number text place) scope → is_listed tokens ≡ true → IsArgument scope number tokens offending
  pub operand_is : operand_tokens ≡ on_line tokens offending

-- The first fault of the passes after reading, with its slice: the tree of the text has the place of each token for its line,
-- so the line of the first broken rule is the place of the offending token, or the one that begins the offending instruction.
pub record IsLaterSpan (bytes : List ℕ) (number line start count : ℕ) : Type 0 where
  pub tokens : List Token
  pub text : Text
  pub read : AreReadByPlaces bytes tokens text
  pub place : ℕ
  pub operand_tokens : List Token
  pub means : IsOneToken text number place (tokens_from tokens place) operand_tokens ⊎ IsInInstruction text number place (tokens_from tokens place) operand_tokens
  pub line_is : line ≡ line_at (slice_get (tokens_from tokens place) 0)
  pub start_is : start ≡ start_of_operand operand_tokens
  pub count_is : count ≡ length_of_operand operand_tokens

-- what is so of a refusal's number and place; out of memory says nothing
abbrev pub OfRefusal : Fault → (ℕ → ℕ → Type 0) → Type 0
OfRefusal Memory P = Unit {0}
OfRefusal (Refused number place) P = P number place

-- why a pass after reading refuses
abbrev pub RefusesLater : List ℕ → Fault → (start count : ℕ) → Type 0
RefusesLater bytes fault start count = OfRefusal fault (λ number line. IsLaterSpan bytes number line start count)

-- a refusal of that number on the line of the first of these tokens, with this slice
pub record PointsTo (number : ℕ) (tokens operand_tokens : List Token) (span : RefusalSpan) : Type 0 where
  pub fault_is : span.fault ≡ Refused number (line_at (slice_get tokens 0))
  pub start_is : span.start ≡ start_of_operand operand_tokens
  pub length_is : span.length ≡ length_of_operand operand_tokens

-- a refusal with a slice of the instruction that begins with these tokens, in a scope that is known by this
pub record IsOffendingThere (known : Scope → Type 0) (number : ℕ) (tokens : List Token) (span : RefusalSpan) : Type 0 where
  pub offending : List Token
  pub means : IsOperandOf number tokens offending
  pub argument : (scope : Scope) → known scope → is_listed tokens ≡ true → IsArgument scope number tokens offending
  pub points : PointsTo number tokens (on_line tokens offending) span

-- or out of memory
abbrev pub PointsToOffending : (Scope → Type 0) → ℕ → List Token → RefusalSpan → Type 0
PointsToOffending known number tokens span = (span.fault ≡ Memory) ⊎ IsOffendingThere known number tokens span

-- what is so of whatever bytes these tokens and this tree were read by places from, and of the tree
abbrev pub OfRead : SpannedSource → (List ℕ → Text → Type 0) → Type 0
OfRead spanned_source P = (bytes : List ℕ) → AreReadByPlaces bytes spanned_source.tokens.items (text_view spanned_source.source) → P bytes (text_view spanned_source.source)
