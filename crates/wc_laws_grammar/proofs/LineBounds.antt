-- What a line counts and opens changes at its operator and at its bracket alone.
use Rattle.std.proofs.Common.{◌≡◌, ◌≢◌, ℕ, Bool, true, false, List, Option, Some, None, refl, ap, subst, if◌then◌else◌, sym, inl, inr, arith, ◌⊎◌}
use Rattle.std.specs.Prelude.{is_some}
use Rattle.wc_laws_grammar.proofs.Bounds.{Within, PositionWithin, counted, ended_was_within, ended_within, opened}
use Rattle.wc_laws_grammar.specs.{StartedLine, OpenCall, InList, AtFirst, AtNext, AtAssign, AtValue, AtEnd, OperandOf, OfStep, OfOpening, OfArgument, LineState, Start, Worded, Labelled, Operated, Jumped, Called, Instanced, Listing, Bracketed, Named, Pointed, Stepped, BracketedWith, Ended, at_bracketed, at_field, at_labelled, at_list, at_operand, at_operated, at_operator, at_start, after_name, after_operand, after_operator, line_move, name_or_literal, operator_or_label, simple_operator, State, started_line, OperandOperator, Loads, Stores, Applies, Operation, Operates, found, is_transfer, operation_of, operations, truths}
use Rattle.wc_model.specs.Definitions.{Setting, Name, name_of, Position, Term, Word}
use Rattle.wc_model.specs.Text.Marks.{Symbol, Identifier, Whole, Duration, Truth, Direct, OpeningBracket, ClosingBracket, Comma, Colon, Point, Assign, Arrow, LineEnd}
use Rattle.wc_model.specs.declared.operator.Operator.{Operator}

-- the next place counts and opens so much
abbrev pub Counts : ℕ → ℕ → Option LineState → Type 0
Counts lines parentheses None = Unit {0}
Counts lines parentheses (Some next) = (counted next ≡ lines) × (opened next ≡ parentheses)

-- what an operand's place opens
abbrev opened_at : OperandOf → ℕ
opened_at (OfOpening operator) = 1
opened_at _ = 0

count_operand : (started : StartedLine) (place : OperandOf) (x : Term) → Counts 1 (opened_at place) (Some (after_operand started place x))
count_operand started (OfStep operating) x = (refl, refl)
count_operand started (OfOpening operator) x = (refl, refl)
count_operand started (OfArgument call input) x = (refl, refl)

count_name : (started : StartedLine) (place : OperandOf) (name : Name) → Counts 1 (opened_at place) (Some (Named started place name))
count_name started (OfStep operating) name = (refl, refl)
count_name started (OfOpening operator) name = (refl, refl)
count_name started (OfArgument call input) name = (refl, refl)

count_literal : (started : StartedLine) (place : OperandOf) (name : Name) (truth : Option Bool) → Counts 1 (opened_at place) (Some (name_or_literal started place name truth))
count_literal started place name None = count_name started place name
count_literal started place name (Some value) = count_operand started place _

count_at_operand : (started : StartedLine) (place : OperandOf) (symbol : Symbol) (line : ℕ) → Counts 1 (opened_at place) (at_operand started place symbol line)
count_at_operand started place (Identifier bytes) line = count_literal started place (name_of bytes) (found truths (name_of bytes))
count_at_operand started place (Direct bytes) line = count_operand started place _
count_at_operand started place (Whole number) line = count_operand started place _
count_at_operand started place (Duration number) line = count_operand started place _
count_at_operand started place (Truth value) line = count_operand started place _
count_at_operand started place _ line = tt

count_list : (started : StartedLine) (call : OpenCall) (item : InList) (symbol : Symbol) (line : ℕ) → Counts 1 0 (at_list started call item symbol line)
count_list started call item LineEnd line = (refl, refl)
count_list started call AtFirst (Identifier bytes) line = (refl, refl)
count_list started call AtFirst ClosingBracket line = (refl, refl)
count_list started call AtNext (Identifier bytes) line = (refl, refl)
count_list started call (AtAssign input) Assign line = (refl, refl)
count_list started call (AtAssign input) Arrow line = (refl, refl)
count_list started call (AtValue input) symbol line = count_at_operand started (OfArgument call input) symbol line
count_list started call AtEnd Comma line = (refl, refl)
count_list started call AtEnd ClosingBracket line = (refl, refl)
count_list started call item _ line = tt

count_bracketed : (started : StartedLine) (operator : Operator) (symbol : Symbol) (line : ℕ) → Counts 1 1 (at_bracketed started operator symbol line)
count_bracketed started operator LineEnd line = (refl, refl)
count_bracketed started operator symbol line = count_at_operand started (OfOpening operator) symbol line

count_after_name : (started : StartedLine) (place : OperandOf) (name : Name) (symbol : Symbol) → Counts 1 (opened_at place) (after_name started place name symbol)
count_after_name started (OfStep operating) name LineEnd = (refl, refl)
count_after_name started (OfOpening operator) name LineEnd = (refl, refl)
count_after_name started (OfArgument call input) name LineEnd = (refl, refl)
count_after_name started (OfArgument call input) name Comma = (refl, refl)
count_after_name started (OfArgument call input) name ClosingBracket = (refl, refl)
count_after_name started place name _ = tt

count_pointed : (started : StartedLine) (place : OperandOf) (name : Name) → Counts 1 (opened_at place) (Some (Pointed started place name))
count_pointed started (OfStep operating) name = (refl, refl)
count_pointed started (OfOpening operator) name = (refl, refl)
count_pointed started (OfArgument call input) name = (refl, refl)

count_named : (started : StartedLine) (place : OperandOf) (name : Name) (symbol : Symbol) (line : ℕ) (setting : Setting) (colon : Bool) → Counts 1 (opened_at place) (line_move setting (Named started place name) symbol line colon)
count_named started place name Point line setting colon = count_pointed started place name
count_named started place name symbol line setting colon = count_after_name started place name symbol

count_field : (started : StartedLine) (place : OperandOf) (name : Name) (symbol : Symbol) → Counts 1 (opened_at place) (at_field started place name symbol)
count_field started place name (Identifier bytes) = count_operand started place _
count_field started (OfArgument call input) name LineEnd = (refl, refl)
count_field started place name _ = tt

-- if neither a label nor an operator with an operand is the last token, nothing changes
abbrev pub IsSteady : LineState → Type 0
IsSteady Start = ⊥
IsSteady (Labelled label) = ⊥
IsSteady (Operated started operating) = ⊥
IsSteady _ = Unit {0}

opened_named : (started : StartedLine) (place : OperandOf) (name : Name) → opened (Named started place name) ≡ opened_at place
opened_named started (OfStep operating) name = refl
opened_named started (OfOpening operator) name = refl
opened_named started (OfArgument call input) name = refl

opened_pointed : (started : StartedLine) (place : OperandOf) (name : Name) → opened (Pointed started place name) ≡ opened_at place
opened_pointed started (OfStep operating) name = refl
opened_pointed started (OfOpening operator) name = refl
opened_pointed started (OfArgument call input) name = refl

pub steady : (setting : Setting) (state : LineState) (symbol : Symbol) (line : ℕ) (colon : Bool) → IsSteady state → Counts (counted state) (opened state) (line_move setting state symbol line colon)
steady setting Start symbol line colon h = absurd h
steady setting (Worded label) Colon line colon h = (refl, refl)
steady setting (Labelled label) symbol line colon h = absurd h
steady setting (Operated started operating) symbol line colon h = absurd h
steady setting (Jumped started condition) (Identifier bytes) line colon h = (refl, refl)
steady setting (Called started condition) (Identifier bytes) line colon h = (refl, refl)
steady setting (Instanced started condition instance) LineEnd line colon h = (refl, refl)
steady setting (Instanced started condition instance) OpeningBracket line colon h = (refl, refl)
steady setting (Listing started call item) symbol line colon h = count_list started call item symbol line
steady setting (Bracketed started operator) symbol line colon h = count_bracketed started operator symbol line
steady setting (Named started place name) symbol line colon h = subst (λ d. Counts 1 d (line_move setting (Named started place name) symbol line colon)) (sym (opened_named started place name)) (count_named started place name symbol line setting colon)
steady setting (Pointed started place name) symbol line colon h = subst (λ d. Counts 1 d (at_field started place name symbol)) (sym (opened_pointed started place name)) (count_field started place name symbol)
steady setting (Stepped started step) LineEnd line colon h = (refl, refl)
steady setting (BracketedWith started operator x) LineEnd line colon h = (refl, refl)
steady setting _ symbol line colon h = tt

-- the next place on a line is within the limits
abbrev pub Fits : Position → Option LineState → Type 0
Fits p None = Unit {0}
Fits p (Some next) = PositionWithin p (counted next) (opened next)

-- the next state is
abbrev pub WithinNext : Option State → Type 0
WithinNext None = Unit {0}
WithinNext (Some next) = Within next

-- if the next place fits, the next state does, and the other way round
pub fits_on : (p : Position) (next : Option LineState) → Fits p next → WithinNext (started_line p next)
fits_on p None h = tt
fits_on p (Some (Ended line_shape)) h = ended_within p line_shape h
fits_on p (Some state) h = h

pub fitted : (p : Position) (next : Option LineState) → WithinNext (started_line p next) → Fits p next
fitted p None h = tt
fitted p (Some (Ended line_shape)) h = ended_was_within p line_shape h
fitted p (Some state) h = h

-- what counts so much fits if so much fits
pub fits_by : (p : Position) (lines parentheses : ℕ) (next : Option LineState) → Counts lines parentheses next → PositionWithin p lines parentheses → Fits p next
fits_by p lines parentheses None c h = tt
fits_by p lines parentheses (Some next) c h = (h.0, omega (arith, c.0, h.1), h.2, omega (arith, c.1, h.3))

pub fitted_by : (p : Position) (lines parentheses : ℕ) (next : LineState) → Counts lines parentheses (Some next) → Fits p (Some next) → PositionWithin p lines parentheses
fitted_by p lines parentheses next c h = (h.0, omega (arith, c.0, h.1), h.2, omega (arith, c.1, h.3))

-- after an operator a line is counted
pub count_operator : (label : Option Word) (line : ℕ) (operation : Operation) → Counts 1 0 (Some (after_operator label line operation))
count_operator label line (Operates operating) = (refl, refl)
count_operator label line another = (refl, refl)

-- if a label's line goes on, it is counted at its operator alone
abbrev pub CountsOnce : Symbol → Option LineState → Type 0
CountsOnce symbol None = Unit {0}
CountsOnce symbol (Some next) = (opened next ≡ 0) × ((counted next ≡ 0) ⊎ ((counted next ≡ 1) × (is_some (operation_of symbol) ≡ true)))

once : (label : Option Word) (line : ℕ) (symbol : Symbol) (operation : Option Operation) → operation_of symbol ≡ operation → CountsOnce symbol (at_operator label line operation)
once label line symbol None e = tt
once label line symbol (Some operation) e = let c = count_operator label line operation in (c.1, inr (c.0, ap is_some e))

pub labelled_once : (label : Word) (symbol : Symbol) (line : ℕ) → CountsOnce symbol (at_labelled label symbol line)
labelled_once label LineEnd line = (refl, inl refl)
labelled_once label symbol line = once (Some label) line symbol (operation_of symbol) refl

word_once : (bytes : List ℕ) (line : ℕ) (operation : Option Operation) → found operations (name_of bytes) ≡ operation → CountsOnce (Identifier bytes) (Some (operator_or_label (record { line = line; name = name_of bytes }) operation))
word_once bytes line None e = (refl, inl refl)
word_once bytes line (Some operation) e = let c = count_operator None line operation in (c.1, inr (c.0, ap is_some e))

-- the first token of a line in a body, if no colon follows
pub start_once : (symbol : Symbol) (line : ℕ) → CountsOnce symbol (at_start symbol line false)
start_once (Identifier bytes) line = word_once bytes line (found operations (name_of bytes)) refl
start_once symbol line = once None line symbol (operation_of symbol) refl

-- and inside parentheses
pub simple_once : (symbol : Symbol) (line : ℕ) (operation : Option Operation) → operation_of symbol ≡ operation → CountsOnce symbol (simple_operator line operation)
simple_once symbol line None e = tt
simple_once symbol line (Some operation) e = by_transfer (is_transfer operation)
  where
    by_transfer : (b : Bool) → CountsOnce symbol (if b then None else Some (after_operator None line operation))
    by_transfer true = tt
    by_transfer false = let c = count_operator None line operation in (c.1, inr (c.0, ap is_some e))

-- after an operator with an operand a bracket opens, and nothing else
pub operated_counts : (started : StartedLine) (operating : OperandOperator) (symbol : Symbol) (line : ℕ) → symbol ≢ OpeningBracket → Counts 1 0 (at_operated started operating symbol line)
operated_counts started operating OpeningBracket line n = absurd (n refl)
operated_counts started (Loads negated) symbol line n = count_at_operand started (OfStep (Loads negated)) symbol line
operated_counts started (Stores storing) symbol line n = count_at_operand started (OfStep (Stores storing)) symbol line
operated_counts started (Applies operator) symbol line n = count_at_operand started (OfStep (Applies operator)) symbol line
