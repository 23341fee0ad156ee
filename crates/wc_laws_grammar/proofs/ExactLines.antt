-- The walk on a line keeps what precedes and follows its operator.
use Rattle.std.proofs.Common.{◌≡◌, ℕ, Bool, true, false, List, [], ◌∷◌, ◌++◌, Option, Some, None, refl, ap, append_assoc, append-nil, subst, if◌then◌else◌, ◌∙◌, sym}
use Rattle.wc_laws_grammar.specs.{StartedLine, OpenCall, OperandOf, OfStep, OfOpening, OfArgument, InList, AtFirst, AtNext, AtAssign, AtValue, AtEnd, LineState, Start, Worded, Labelled, Operated, Jumped, Called, Instanced, Listing, Bracketed, Named, Pointed, Stepped, BracketedWith, Ended, at_bracketed, at_field, at_labelled, at_list, at_operand, at_operated, at_operator, at_start, at_start_in, after_name, after_operand, after_operator, line_move, name_or_literal, operator_or_label, simple_operator, OperandOperator, Applies, Operation, Operates, Negates, found, is_transfer, operation_of, operations, truths}
use Rattle.wc_laws_grammar.proofs.Appending.{append_last}
use Rattle.wc_laws_grammar.proofs.LineSound.{AllowsFrom, mark_on}
use Rattle.wc_laws_grammar.proofs.Reported.{Exact, PartOpened}
use Rattle.wc_laws_grammar.proofs.WordLaws.{is_operator}
use Rattle.wc_laws_grammar.proofs.Languages.{joined}
use Rattle.wc_model.specs.Text.Grammar as grammar
use Rattle.wc_model.specs.Definitions.{IsOn, IsOperator, Setting, InBody, InParentheses, label_in, operand, ◌then◌, one, optional, Name, name_of, Word, Term}
use Rattle.wc_model.specs.Text.Marks.{Symbol, Identifier, Whole, Duration, Truth, Direct, OpeningBracket, ClosingBracket, Comma, Colon, Point, Assign, Arrow, LineEnd, Mark}
use Rattle.wc_model.specs.declared.operator.Operator.{Operator}

-- what is kept after one more token
abbrev pub ExactNext : Setting → List Mark → Option LineState → Type 0
ExactNext setting tokens None = Unit {0}
ExactNext setting tokens (Some next) = Exact setting next tokens

-- where an operand is, other than on an opening line
abbrev NoOpening : OperandOf → Type 0
NoOpening (OfStep operating) = Unit {0}
NoOpening (OfOpening operator) = ⊥
NoOpening (OfArgument call input) = Unit {0}

exact_operand : (setting : Setting) (started : StartedLine) (place : OperandOf) (x : Term) (tokens : List Mark) → NoOpening place → Exact setting (after_operand started place x) tokens
exact_operand setting started (OfStep operating) x tokens n = tt
exact_operand setting started (OfOpening operator) x tokens n = absurd n
exact_operand setting started (OfArgument call input) x tokens n = tt

exact_started_name : (setting : Setting) (started : StartedLine) (place : OperandOf) (name : Name) (tokens : List Mark) → NoOpening place → Exact setting (Named started place name) tokens
exact_started_name setting started (OfStep operating) name tokens n = tt
exact_started_name setting started (OfOpening operator) name tokens n = absurd n
exact_started_name setting started (OfArgument call input) name tokens n = tt

exact_name : (setting : Setting) (started : StartedLine) (place : OperandOf) (name : Name) (truth : Option Bool) (tokens : List Mark) → NoOpening place → Exact setting (name_or_literal started place name truth) tokens
exact_name setting started place name None tokens n = exact_started_name setting started place name tokens n
exact_name setting started place name (Some value) tokens n = exact_operand setting started place _ tokens n

exact_at_operand : (setting : Setting) (started : StartedLine) (place : OperandOf) (symbol : Symbol) (line : ℕ) (tokens : List Mark) → NoOpening place → ExactNext setting tokens (at_operand started place symbol line)
exact_at_operand setting started place (Identifier bytes) line tokens n = exact_name setting started place (name_of bytes) (found truths (name_of bytes)) tokens n
exact_at_operand setting started place (Direct bytes) line tokens n = exact_operand setting started place _ tokens n
exact_at_operand setting started place (Whole number) line tokens n = exact_operand setting started place _ tokens n
exact_at_operand setting started place (Duration number) line tokens n = exact_operand setting started place _ tokens n
exact_at_operand setting started place (Truth value) line tokens n = exact_operand setting started place _ tokens n
exact_at_operand setting started place _ line tokens n = tt

exact_operator : (setting : Setting) (label : Option Word) (symbol : Symbol) (line : ℕ) (operation : Operation) (tokens : List Mark) → operation_of symbol ≡ Some operation → label_in setting label tokens
    → Exact setting (after_operator label line operation) (tokens ++ mark_on symbol line ∷ [])
exact_operator setting label symbol line (Operates operating) tokens e h = joined tokens (mark_on symbol line ∷ []) h (e, refl)
exact_operator setting label symbol line Negates tokens e h = tt
exact_operator setting label symbol line another tokens e h = tt

exact_at_operator : (setting : Setting) (label : Option Word) (symbol : Symbol) (line : ℕ) (operation : Option Operation) (tokens : List Mark) → operation_of symbol ≡ operation → label_in setting label tokens
    → ExactNext setting (tokens ++ mark_on symbol line ∷ []) (at_operator label line operation)
exact_at_operator setting label symbol line None tokens e h = tt
exact_at_operator setting label symbol line (Some operation) tokens e h = exact_operator setting label symbol line operation tokens e h

exact_word : (bytes : List ℕ) (line : ℕ) (operation : Option Operation) → found operations (name_of bytes) ≡ operation
    → Exact InBody (operator_or_label (record { line = line; name = name_of bytes }) operation) (mark_on (Identifier bytes) line ∷ [])
exact_word bytes line None e = (refl, (refl, refl))
exact_word bytes line (Some operation) e = exact_operator InBody None (Identifier bytes) line operation [] e refl

exact_start : (symbol : Symbol) (line : ℕ) (colon : Bool) → ExactNext InBody (mark_on symbol line ∷ []) (at_start symbol line colon)
exact_start (Identifier bytes) line true = (refl, (refl, refl))
exact_start (Identifier bytes) line false = exact_word bytes line (found operations (name_of bytes)) refl
exact_start symbol line colon = exact_at_operator InBody None symbol line (operation_of symbol) [] refl refl

exact_simple : (symbol : Symbol) (line : ℕ) (operation : Option Operation) → operation_of symbol ≡ operation → ExactNext InParentheses (mark_on symbol line ∷ []) (simple_operator line operation)
exact_simple symbol line None e = tt
exact_simple symbol line (Some operation) e = by_transfer (is_transfer operation)
  where
    by_transfer : (b : Bool) → ExactNext InParentheses (mark_on symbol line ∷ []) (if b then None else Some (after_operator None line operation))
    by_transfer true = tt
    by_transfer false = exact_operator InParentheses None symbol line operation [] e refl

-- the first token of a line
pub exact_at_start : (setting : Setting) (symbol : Symbol) (line : ℕ) (colon : Bool) → ExactNext setting (mark_on symbol line ∷ []) (at_start_in setting symbol line colon)
exact_at_start InBody symbol line colon = exact_start symbol line colon
exact_at_start InParentheses symbol line colon = exact_simple symbol line (operation_of symbol) refl

exact_labelled : (setting : Setting) (label : Word) (symbol : Symbol) (line : ℕ) (tokens : List Mark) → Exact setting (Labelled label) tokens → ExactNext setting (tokens ++ mark_on symbol line ∷ []) (at_labelled label symbol line)
exact_labelled setting label LineEnd line tokens h = tt
exact_labelled setting label symbol line tokens h = exact_at_operator setting (Some label) symbol line (operation_of symbol) tokens refl (subst (λ s. label_in s (Some label) tokens) (sym h.0) h.1)

-- the next is an opening line of this instruction, or its end
abbrev IsOpeningOf : StartedLine → Operator → Option LineState → Type 0
IsOpeningOf started operator None = Unit {0}
IsOpeningOf started operator (Some (Ended line_shape)) = Unit {0}
IsOpeningOf started operator (Some (Bracketed b o)) = (b ≡ started) × (o ≡ operator)
IsOpeningOf started operator (Some (BracketedWith b o x)) = (b ≡ started) × (o ≡ operator)
IsOpeningOf started operator (Some (Named b (OfOpening o) name)) = (b ≡ started) × (o ≡ operator)
IsOpeningOf started operator (Some (Pointed b (OfOpening o) name)) = (b ≡ started) × (o ≡ operator)
IsOpeningOf started operator (Some _) = ⊥

pub one_operator : (line : ℕ) (operator : Operator) (tokens : List Mark) → one (IsOn line (λ mark. operation_of mark.symbol ≡ Some (Operates (Applies operator)))) tokens → one (IsOn line (IsOperator operator)) tokens
one_operator line operator [] h = absurd h
one_operator line operator (mark ∷ []) h = (is_operator operator mark.symbol mark.line h.0, h.1)
one_operator line operator (x ∷ y ∷ more) h = absurd h

-- after the bracket of an opening line
exact_bracket : (setting : Setting) (started : StartedLine) (operator : Operator) (line : ℕ) (tokens : List Mark) → Exact setting (Operated started (Applies operator)) tokens → Exact setting (Bracketed started operator) (tokens ++ mark_on OpeningBracket line ∷ [])
exact_bracket setting started operator line tokens h = record {
  prefix = tokens ++ mark_on OpeningBracket line ∷ [];
  following = [];
  whole = sym (append-nil (tokens ++ mark_on OpeningBracket line ∷ []));
  begins = append_last (mark_on OpeningBracket line ∷ []) (λ ts k. joined ts (mark_on OpeningBracket line ∷ []) (one_operator started.line operator ts k) refl) h;
  goes = λ line_shape more r. (r.0, r.2);
}

exact_operated : (setting : Setting) (started : StartedLine) (operating : OperandOperator) (symbol : Symbol) (line : ℕ) (tokens : List Mark) → Exact setting (Operated started operating) tokens
    → ExactNext setting (tokens ++ mark_on symbol line ∷ []) (at_operated started operating symbol line)
exact_operated setting started (Applies operator) OpeningBracket line tokens h = exact_bracket setting started operator line tokens h
exact_operated setting started operating symbol line tokens h = exact_at_operand setting started (OfStep operating) symbol line (tokens ++ mark_on symbol line ∷ []) tt

-- an opening line that goes on
part_on : (setting : Setting) (started : StartedLine) (operator : Operator) (state next : LineState) (mark : Mark) (tokens : List Mark) → AllowsFrom state mark (Some next) → PartOpened setting started operator state tokens → PartOpened setting started operator next (tokens ++ mark ∷ [])
part_on setting started operator state next mark tokens a h = record {
  prefix = h.prefix;
  following = h.following ++ mark ∷ [];
  whole = ap (λ ts. ts ++ mark ∷ []) h.whole ∙ append_assoc h.prefix h.following (mark ∷ []);
  begins = h.begins;
  goes = λ line_shape more r. let g = h.goes line_shape (mark ∷ more) (a line_shape more r) in (g.0, subst (optional operand g.0 then grammar.symbol LineEnd) (sym (append_assoc h.following (mark ∷ []) more)) g.1);
}

-- one token more of an opening line, after which it is one, or ends
opening_on : (setting : Setting) (started : StartedLine) (operator : Operator) (state : LineState) (mark : Mark) (tokens : List Mark) (next : Option LineState) → IsOpeningOf started operator next → AllowsFrom state mark next → PartOpened setting started operator state tokens
    → ExactNext setting (tokens ++ mark ∷ []) next
opening_on setting started operator state mark tokens None o a h = tt
opening_on setting started operator state mark tokens (Some (Ended line_shape)) o a h = tt
opening_on setting started operator state mark tokens (Some (Bracketed b p)) o a h = subst (λ q. PartOpened setting b q (Bracketed b p) (tokens ++ mark ∷ [])) (sym o.1) (subst (λ c. PartOpened setting c operator (Bracketed b p) (tokens ++ mark ∷ [])) (sym o.0) (part_on setting started operator state (Bracketed b p) mark tokens a h))
opening_on setting started operator state mark tokens (Some (BracketedWith b p x)) o a h = subst (λ q. PartOpened setting b q (BracketedWith b p x) (tokens ++ mark ∷ [])) (sym o.1) (subst (λ c. PartOpened setting c operator (BracketedWith b p x) (tokens ++ mark ∷ [])) (sym o.0) (part_on setting started operator state (BracketedWith b p x) mark tokens a h))
opening_on setting started operator state mark tokens (Some (Named b (OfOpening p) name)) o a h = subst (λ q. PartOpened setting b q (Named b (OfOpening p) name) (tokens ++ mark ∷ [])) (sym o.1) (subst (λ c. PartOpened setting c operator (Named b (OfOpening p) name) (tokens ++ mark ∷ [])) (sym o.0) (part_on setting started operator state (Named b (OfOpening p) name) mark tokens a h))
opening_on setting started operator state mark tokens (Some (Pointed b (OfOpening p) name)) o a h = subst (λ q. PartOpened setting b q (Pointed b (OfOpening p) name) (tokens ++ mark ∷ [])) (sym o.1) (subst (λ c. PartOpened setting c operator (Pointed b (OfOpening p) name) (tokens ++ mark ∷ [])) (sym o.0) (part_on setting started operator state (Pointed b (OfOpening p) name) mark tokens a h))
opening_on setting started operator state mark tokens (Some (Named b (OfStep q) name)) o a h = absurd o
opening_on setting started operator state mark tokens (Some (Named b (OfArgument c i) name)) o a h = absurd o
opening_on setting started operator state mark tokens (Some (Pointed b (OfStep q) name)) o a h = absurd o
opening_on setting started operator state mark tokens (Some (Pointed b (OfArgument c i) name)) o a h = absurd o
opening_on setting started operator state mark tokens (Some _) o a h = absurd o

opened_name : (started : StartedLine) (operator : Operator) (name : Name) (truth : Option Bool) → IsOpeningOf started operator (Some (name_or_literal started (OfOpening operator) name truth))
opened_name started operator name None = (refl, refl)
opened_name started operator name (Some value) = (refl, refl)

opened_operand : (started : StartedLine) (operator : Operator) (symbol : Symbol) (line : ℕ) → IsOpeningOf started operator (at_operand started (OfOpening operator) symbol line)
opened_operand started operator (Identifier bytes) line = opened_name started operator (name_of bytes) (found truths (name_of bytes))
opened_operand started operator (Direct bytes) line = (refl, refl)
opened_operand started operator (Whole number) line = (refl, refl)
opened_operand started operator (Duration number) line = (refl, refl)
opened_operand started operator (Truth value) line = (refl, refl)
opened_operand started operator _ line = tt

opened_bracket : (started : StartedLine) (operator : Operator) (symbol : Symbol) (line : ℕ) → IsOpeningOf started operator (at_bracketed started operator symbol line)
opened_bracket started operator LineEnd line = tt
opened_bracket started operator symbol line = opened_operand started operator symbol line

opened_after : (started : StartedLine) (operator : Operator) (name : Name) (symbol : Symbol) (line : ℕ) (setting : Setting) (colon : Bool) → IsOpeningOf started operator (line_move setting (Named started (OfOpening operator) name) symbol line colon)
opened_after started operator name Point line setting colon = (refl, refl)
opened_after started operator name LineEnd line setting colon = tt
opened_after started operator name _ line setting colon = tt

opened_field : (started : StartedLine) (operator : Operator) (name : Name) (symbol : Symbol) → IsOpeningOf started operator (at_field started (OfOpening operator) name symbol)
opened_field started operator name (Identifier bytes) = (refl, refl)
opened_field started operator name _ = tt

opened_with : (started : StartedLine) (operator : Operator) (x : Term) (symbol : Symbol) (line : ℕ) (setting : Setting) (colon : Bool) → IsOpeningOf started operator (line_move setting (BracketedWith started operator x) symbol line colon)
opened_with started operator x LineEnd line setting colon = tt
opened_with started operator x _ line setting colon = tt

exact_list : (setting : Setting) (started : StartedLine) (call : OpenCall) (item : InList) (symbol : Symbol) (line : ℕ) (tokens : List Mark) → ExactNext setting tokens (at_list started call item symbol line)
exact_list setting started call item LineEnd line tokens = tt
exact_list setting started call AtFirst (Identifier bytes) line tokens = tt
exact_list setting started call AtFirst ClosingBracket line tokens = tt
exact_list setting started call AtNext (Identifier bytes) line tokens = tt
exact_list setting started call (AtAssign input) Assign line tokens = tt
exact_list setting started call (AtAssign input) Arrow line tokens = tt
exact_list setting started call (AtValue input) symbol line tokens = exact_at_operand setting started (OfArgument call input) symbol line tokens tt
exact_list setting started call AtEnd Comma line tokens = tt
exact_list setting started call AtEnd ClosingBracket line tokens = tt
exact_list setting started call item _ line tokens = tt

exact_after_name : (setting : Setting) (started : StartedLine) (place : OperandOf) (name : Name) (symbol : Symbol) (tokens : List Mark) → NoOpening place → ExactNext setting tokens (after_name started place name symbol)
exact_after_name setting started (OfStep operating) name LineEnd tokens n = tt
exact_after_name setting started (OfOpening operator) name LineEnd tokens n = absurd n
exact_after_name setting started (OfArgument call input) name LineEnd tokens n = tt
exact_after_name setting started another name third tokens n = tt

exact_pointed : (setting : Setting) (started : StartedLine) (place : OperandOf) (name : Name) (tokens : List Mark) → NoOpening place → Exact setting (Pointed started place name) tokens
exact_pointed setting started (OfStep operating) name tokens n = tt
exact_pointed setting started (OfOpening operator) name tokens n = absurd n
exact_pointed setting started (OfArgument call input) name tokens n = tt

exact_named : (setting : Setting) (started : StartedLine) (place : OperandOf) (name : Name) (symbol : Symbol) (line : ℕ) (colon : Bool) (tokens : List Mark) → NoOpening place → ExactNext setting tokens (line_move setting (Named started place name) symbol line colon)
exact_named setting started place name Point line colon tokens n = exact_pointed setting started place name tokens n
exact_named setting started place name symbol line colon tokens n = exact_after_name setting started place name symbol tokens n

exact_field : (setting : Setting) (started : StartedLine) (place : OperandOf) (name : Name) (symbol : Symbol) (tokens : List Mark) → NoOpening place → ExactNext setting tokens (at_field started place name symbol)
exact_field setting started place name (Identifier bytes) tokens n = exact_operand setting started place _ tokens n
exact_field setting started (OfArgument call input) name LineEnd tokens n = tt
exact_field setting started place name _ tokens n = tt

-- one more token of a line
pub exact_move : (setting : Setting) (state : LineState) (symbol : Symbol) (line : ℕ) (colon : Bool) (tokens : List Mark) → AllowsFrom state (mark_on symbol line) (line_move setting state symbol line colon) → Exact setting state tokens
    → ExactNext setting (tokens ++ mark_on symbol line ∷ []) (line_move setting state symbol line colon)
exact_move setting Start symbol line colon tokens a h = absurd h
exact_move setting (Worded label) Colon line colon tokens a h = (h.0, joined tokens (mark_on Colon line ∷ []) h.1 refl)
exact_move setting (Labelled label) symbol line colon tokens a h = exact_labelled setting label symbol line tokens h
exact_move setting (Operated started operating) symbol line colon tokens a h = exact_operated setting started operating symbol line tokens h
exact_move setting (Jumped started condition) (Identifier bytes) line colon tokens a h = tt
exact_move setting (Called started condition) (Identifier bytes) line colon tokens a h = tt
exact_move setting (Instanced started condition instance) LineEnd line colon tokens a h = tt
exact_move setting (Instanced started condition instance) OpeningBracket line colon tokens a h = tt
exact_move setting (Listing started call item) symbol line colon tokens a h = exact_list setting started call item symbol line (tokens ++ mark_on symbol line ∷ [])
exact_move setting (Bracketed started operator) symbol line colon tokens a h = opening_on setting started operator (Bracketed started operator) (mark_on symbol line) tokens (at_bracketed started operator symbol line) (opened_bracket started operator symbol line) a h
exact_move setting (Named started (OfOpening operator) name) symbol line colon tokens a h =
    opening_on setting started operator (Named started (OfOpening operator) name) (mark_on symbol line) tokens (line_move setting (Named started (OfOpening operator) name) symbol line colon) (opened_after started operator name symbol line setting colon) a h
exact_move setting (Named started place name) symbol line colon tokens a h = exact_named setting started place name symbol line colon (tokens ++ mark_on symbol line ∷ []) tt
exact_move setting (Pointed started (OfOpening operator) name) symbol line colon tokens a h = opening_on setting started operator (Pointed started (OfOpening operator) name) (mark_on symbol line) tokens (at_field started (OfOpening operator) name symbol) (opened_field started operator name symbol) a h
exact_move setting (Pointed started place name) symbol line colon tokens a h = exact_field setting started place name symbol (tokens ++ mark_on symbol line ∷ []) tt
exact_move setting (Stepped started step) LineEnd line colon tokens a h = tt
exact_move setting (BracketedWith started operator x) symbol line colon tokens a h =
    opening_on setting started operator (BracketedWith started operator x) (mark_on symbol line) tokens (line_move setting (BracketedWith started operator x) symbol line colon) (opened_with started operator x symbol line setting colon) a h
exact_move setting _ symbol line colon tokens a h = tt
