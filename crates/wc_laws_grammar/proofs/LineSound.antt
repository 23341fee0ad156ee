-- After each token that the walk takes on a line, what completes the line from there completes it from before the token too.
use Rattle.std.proofs.Common.{◌≡◌, ◌≢◌, ℕ, Bool, true, false, List, [], ◌∷◌, Option, Some, None, refl, ap, subst, if◌then◌else◌, append_assoc, append-nil, ◌∙◌, sym, inl, inr}
use Rattle.wc_laws_grammar.specs.{Formal, with_actual, LineShape, LabelAlone, Instructs, Opens, StartedLine, OpenCall, OperandOf, OfStep, OfOpening, OfArgument, InList, AtFirst, AtNext, AtAssign, AtValue, AtEnd, LineState, Start, Worded, Labelled, Operated, Jumped, Called, Instanced, Listing, Bracketed, Named, Pointed, Stepped, BracketedWith, with_argument, after_operand, name_or_literal, at_operand, after_operator, at_operator, operator_or_label, at_start, simple_operator, at_start_in, at_labelled, at_operated, at_list, at_bracketed, after_name, at_field, line_move, OperandOperator, Loads, Stores, Applies, Operation, Operates, Negates, Jumps, Calls, Returns, found, is_transfer, operation_of, operations, step_of, truths}
use Rattle.wc_laws_grammar.proofs.LineRests.{line_of, after_its_name, after_its_point, more_arguments, list_rest, call_shape, operand_rest, labelled_rest, rest_of}
use Rattle.wc_laws_grammar.proofs.Skipping.{skip_next, skip_over, skip_none}
use Rattle.wc_laws_grammar.proofs.WordLaws.{truth_found, not_truth, is_operator, is_operator_of, operation_in, operation_in_step}
use Rattle.wc_laws_grammar.proofs.Languages.{joined, next, pass, regroup, before, after}
use Rattle.wc_model.specs.Text.Grammar as grammar
use Rattle.wc_model.specs.Definitions.{sign_of, operand, argument, call_list, bracketed, instruction, opening, operands_of, Setting, InBody, InParentheses, MayOccur, Language, ◌then◌, optional, separated, Name, name_of}
use Rattle.wc_model.specs.Text.Marks.{Symbol, Identifier, Whole, Duration, Truth, Direct, Ampersand, AmpersandN, OpeningBracket, ClosingBracket, Comma, Colon, Point, Assign, Arrow, LineEnd, Mark, is_line_end}
use Rattle.wc_model.specs.Language.Tree.{Word, Term, Constant, Address, Variable, Field, Assignment, Step, Negate, Jump, Call, Return}
use Rattle.wc_model.specs.declared.operator.Condition.{Condition}
use Rattle.wc_model.specs.declared.operator.Direction.{Direction}
use Rattle.wc_model.specs.declared.operator.Direction.TheVariants.{Into, OutOf}
use Rattle.wc_model.specs.declared.operator.Operator.{Operator}
use Rattle.wc_model.specs.declared.value.Value.TheVariants.{Bool as BoolValue, Dint, Time}

-- a token that the walk takes may be there: what completes the line after it completes it from before it
abbrev pub Allows : (Mark → LineShape → List Mark → Type 0) → Mark → Option LineState → Type 0
Allows Rest mark None = Unit {0}
Allows Rest mark (Some next) = (line_shape : LineShape) (tokens : List Mark) → rest_of next line_shape tokens → Rest mark line_shape tokens

-- the same from a place on the line
abbrev pub AllowsFrom : LineState → Mark → Option LineState → Type 0
AllowsFrom state mark next = Allows (λ m line_shape tokens. rest_of state line_shape (m ∷ tokens)) mark next

-- one argument more, and the others
pub one_argument : (started : StartedLine) (call : OpenCall) (input : Formal) (x : Term) (more : List Assignment)
    → call_shape started (with_argument call input x) more ≡ call_shape started call (with_actual input x ∷ more)
one_argument started call input x more =
    ap (λ arguments. Instructs started.label started.line (Call call.condition call.instance arguments)) (append_assoc call.arguments (with_actual input x ∷ []) more)

-- an operand whose last token this is
pub whole_operand : (started : StartedLine) (place : OperandOf) (left : Term → List Mark → Type 0) (x : Term) (mark : Mark) → is_line_end mark ≡ false → left x (mark ∷ [])
    → (line_shape : LineShape) (tokens : List Mark) → rest_of (after_operand started place x) line_shape tokens → operand_rest started place left line_shape (mark ∷ tokens)
whole_operand started (OfStep operating) left x mark kept here line_shape tokens r = (x, r.0, joined (mark ∷ []) tokens here r.1)
whole_operand started (OfOpening operator) left x mark kept here line_shape tokens r = (x, r.0, joined (mark ∷ []) tokens here r.1)
whole_operand started (OfArgument call input) left x mark kept here line_shape tokens r = (
  x,
  r.0,
  r.1 ∙ one_argument started call input x r.0,
  skip_next is_line_end (left x then more_arguments r.0) kept (before (λ ts k. joined (mark ∷ []) _ here k) r.2),
)

-- a token of an operand that is not its last
pub part_of_operand : (started : StartedLine) (place : OperandOf) (left left' : Term → List Mark → Type 0) (mark : Mark) → is_line_end mark ≡ false
    → ((x : Term) (ts : List Mark) → left' x ts → left x (mark ∷ ts))
    → (line_shape : LineShape) (tokens : List Mark) → operand_rest started place left' line_shape tokens → operand_rest started place left line_shape (mark ∷ tokens)
part_of_operand started (OfStep operating) left left' mark kept f line_shape tokens r =
    (r.0, r.1, record { prefix = mark ∷ r.2.prefix; rest = r.2.rest; whole = ap (λ ts. mark ∷ ts) r.2.whole; begins = f r.0 r.2.prefix r.2.begins; goes_on = r.2.goes_on })
part_of_operand started (OfOpening operator) left left' mark kept f line_shape tokens r =
    (r.0, r.1, record { prefix = mark ∷ r.2.prefix; rest = r.2.rest; whole = ap (λ ts. mark ∷ ts) r.2.whole; begins = f r.0 r.2.prefix r.2.begins; goes_on = r.2.goes_on })
part_of_operand started (OfArgument call input) left left' mark kept f line_shape tokens r = (
  r.0,
  r.1,
  r.2,
  skip_next is_line_end (left r.0 then more_arguments r.1) kept
      (before (λ ts k. record { prefix = mark ∷ k.prefix; rest = k.rest; whole = ap (λ us. mark ∷ us) k.whole; begins = f r.0 k.prefix k.begins; goes_on = k.goes_on }) r.3),
)

-- a mark on a line
abbrev pub mark_on : Symbol → ℕ → Mark
mark_on symbol line = record { symbol = symbol; line = line }

name_allowed : (started : StartedLine) (place : OperandOf) (bytes : List ℕ) (line : ℕ) (truth : Option Bool) → found truths (name_of bytes) ≡ truth
    → Allows (λ m line_shape tokens. operand_rest started place operand line_shape (m ∷ tokens)) (mark_on (Identifier bytes) line) (Some (name_or_literal started place (name_of bytes) truth))
name_allowed started place bytes line None e =
    part_of_operand started place operand (after_its_name (name_of bytes)) _ refl (λ x ts k. named x ts k)
  where
    named : (x : Term) (ts : List Mark) → after_its_name (name_of bytes) x ts → operand x (mark_on (Identifier bytes) line ∷ ts)
    named (Constant value) ts k = absurd k
    named (Address word) ts k = absurd k
    named (Variable other) ts k = subst (λ us. operand (Variable other) (mark_on (Identifier bytes) line ∷ us)) (sym k.1) (λ value q. not_truth (name_of bytes) e value (k.0 ∙ q), ap (λ n. Some n) k.0)
    named (Field instance field) ts k = joined (mark_on (Identifier bytes) line ∷ []) ts (λ value q. not_truth (name_of bytes) e value (k.0 ∙ q), ap (λ n. Some n) k.0) k.1
name_allowed started place bytes line (Some value) e =
    whole_operand started place operand (Constant (BoolValue value)) _ refl (inr (ap (λ n. Some n) (truth_found (name_of bytes) value e)))

-- the first token of an operand
pub operand_allowed : (started : StartedLine) (place : OperandOf) (symbol : Symbol) (line : ℕ)
    → Allows (λ m line_shape tokens. operand_rest started place operand line_shape (m ∷ tokens)) (mark_on symbol line) (at_operand started place symbol line)
operand_allowed started place (Identifier bytes) line = name_allowed started place bytes line (found truths (name_of bytes)) refl
operand_allowed started place (Direct bytes) line = whole_operand started place operand (Address (record { line = line; name = name_of bytes })) _ refl (refl, refl)
operand_allowed started place (Whole number) line = whole_operand started place operand (Constant (Dint number)) _ refl refl
operand_allowed started place (Duration milliseconds) line = whole_operand started place operand (Constant (Time milliseconds)) _ refl refl
operand_allowed started place (Truth value) line = whole_operand started place operand (Constant (BoolValue value)) _ refl (inl refl)
operand_allowed started place _ line = tt

-- steps with an operand may be anywhere
operand_holds : (setting : Setting) (operating : OperandOperator) (x : Term) → MayOccur setting (step_of operating x)
operand_holds InBody operating x = tt
operand_holds InParentheses (Loads negated) x = λ h. h
operand_holds InParentheses (Stores storing) x = λ h. h
operand_holds InParentheses (Applies operator) x = λ h. h

-- what follows an operator with an operand
operands_are : (operating : OperandOperator) (x : Term) (tokens : List Mark) → operand x tokens → operands_of (step_of operating x) tokens
operands_are (Loads negated) x tokens h = h
operands_are (Stores storing) x tokens h = h
operands_are (Applies operator) x tokens h = h

-- NOT may be anywhere
is_simple : (setting : Setting) → MayOccur setting Negate
is_simple InBody = tt
is_simple InParentheses = λ h. h

-- an operator's bracket, and the end of a line
abbrev symbol_of_bracket : Language Mark
symbol_of_bracket = grammar.symbol OpeningBracket

abbrev end_of_line : Language Mark
end_of_line = grammar.symbol LineEnd

-- if an operator may follow a label, its steps may
abbrev pub MayBegin : Setting → Operation → Type 0
MayBegin InBody operation = Unit {0}
MayBegin InParentheses operation = is_transfer operation ≡ false

-- a step whose operator is a jump, a call or a return
transfer_holds : (setting : Setting) (step : Step) (operation : Operation) → is_transfer operation ≡ true → MayBegin setting operation → MayOccur setting step
transfer_holds InBody step operation t may = tt
transfer_holds InParentheses step operation t may = absurd (cc)

-- a step with its first token, and what is after it
begins_line : (setting : Setting) (label : Option Word) (line : ℕ) (step : Step) (symbol : Symbol) (second : List Mark → Type 0) (tokens : List Mark) → operation_of symbol ≡ Some (operation_in step)
    → (operands_of step then second) tokens → (instruction line step then second) (mark_on symbol line ∷ tokens)
begins_line setting label line step symbol second tokens e h = regroup (next (is_operator_of step symbol line e, refl) h)

-- the same if a parenthesis opens
begins_opening : (line : ℕ) (operator : Operator) (x : Option Term) (symbol : Symbol) (tokens : List Mark) → operation_of symbol ≡ Some (Operates (Applies operator))
    → (symbol_of_bracket then optional operand x then end_of_line) tokens → opening line operator x (mark_on symbol line ∷ tokens)
begins_opening line operator x symbol tokens e h = regroup (next (is_operator operator symbol line e, refl) h)

-- the line that begins with an operator, if `wrap` adds what precedes it
operator_allowed : (setting : Setting) (label : Option Word) (line : ℕ) (Rest : Mark → LineShape → List Mark → Type 0) (symbol : Symbol) (operation : Operation)
    → operation_of symbol ≡ Some operation → MayBegin setting operation
    → ((step : Step) (tokens : List Mark) → MayOccur setting step → (instruction line step then end_of_line) (mark_on symbol line ∷ tokens) → Rest (mark_on symbol line) (Instructs label line step) tokens)
    → ((operator : Operator) (x : Option Term) (tokens : List Mark) → opening line operator x (mark_on symbol line ∷ tokens) → Rest (mark_on symbol line) (Opens label line operator x) tokens)
    → Allows Rest (mark_on symbol line) (Some (after_operator label line operation))
operator_allowed setting label line Rest symbol (Operates operating) e may step_line open_line line_shape tokens (inl r) =
    rw r.1 (step_line (step_of operating r.0) tokens (operand_holds setting operating r.0)
    (begins_line setting label line (step_of operating r.0) symbol end_of_line tokens (e ∙ ap (λ o. Some o) (sym (operation_in_step operating r.0))) (before (λ ts k. operands_are operating r.0 ts k) r.2)))
operator_allowed setting label line Rest symbol (Operates operating) e may step_line open_line line_shape tokens (inr r) =
    rw r.3 (open_line r.0 r.1 tokens (begins_opening line r.0 r.1 symbol tokens (e ∙ ap (λ o. Some (Operates o)) r.2) r.4))
operator_allowed setting label line Rest symbol Negates e may step_line open_line line_shape tokens r =
    rw r.0 (step_line Negate tokens (is_simple setting) (begins_line setting label line Negate symbol end_of_line tokens e (pass refl r.1)))
operator_allowed setting label line Rest symbol (Jumps condition) e may step_line open_line line_shape tokens r =
    rw r.1 (step_line (Jump condition r.0) tokens (transfer_holds setting _ _ refl may) (begins_line setting label line (Jump condition r.0) symbol end_of_line tokens e r.2))
operator_allowed setting label line Rest symbol (Calls condition) e may step_line open_line line_shape tokens r =
    rw r.2 (step_line (Call condition r.0 r.1) tokens (transfer_holds setting _ _ refl may) (begins_line setting label line (Call condition r.0 r.1) symbol end_of_line tokens e (regroup r.3)))
operator_allowed setting label line Rest symbol (Returns condition) e may step_line open_line line_shape tokens r =
    rw r.0 (step_line (Return condition) tokens (transfer_holds setting _ _ refl may) (begins_line setting label line (Return condition) symbol end_of_line tokens e (pass refl r.1)))

-- what may be somewhere may be in a larger place
allows_more : (Rest Larger : Mark → LineShape → List Mark → Type 0) (mark : Mark) (next : Option LineState)
    → ((line_shape : LineShape) (tokens : List Mark) → Rest mark line_shape tokens → Larger mark line_shape tokens) → Allows Rest mark next → Allows Larger mark next
allows_more Rest Larger mark None f h = tt
allows_more Rest Larger mark (Some next) f h = λ line_shape tokens r. f line_shape tokens (h line_shape tokens r)

-- one line end, if nothing is after it
line_end : (line : ℕ) (tokens : List Mark) → tokens ≡ [] → grammar.symbol LineEnd (mark_on LineEnd line ∷ tokens)
line_end line tokens e = subst (λ ts. grammar.symbol LineEnd (mark_on LineEnd line ∷ ts)) (sym e) refl

-- what completes a line from its start
abbrev pub FromStart : Setting → Mark → LineShape → List Mark → Type 0
FromStart setting mark line_shape tokens = line_of setting line_shape (mark ∷ tokens)

-- an operator with no label before it
start_operator : (setting : Setting) (symbol : Symbol) (line : ℕ) (operation : Operation) → operation_of symbol ≡ Some operation → MayBegin setting operation
    → Allows (FromStart setting) (mark_on symbol line) (Some (after_operator None line operation))
start_operator setting symbol line operation e may =
    operator_allowed setting None line (FromStart setting) symbol operation e may (λ step tokens represents h. (represents, pass refl h)) (λ operator x tokens h. pass refl h)

at_operator_allowed : (symbol : Symbol) (line : ℕ) (operation : Option Operation) → operation_of symbol ≡ operation
    → Allows (FromStart InBody) (mark_on symbol line) (at_operator None line operation)
at_operator_allowed symbol line None e = tt
at_operator_allowed symbol line (Some operation) e = start_operator InBody symbol line operation e tt

-- a label's word
word_allowed : (bytes : List ℕ) (line : ℕ) → Allows (FromStart InBody) (mark_on (Identifier bytes) line) (Some (Worded (record { line = line; name = name_of bytes })))
word_allowed bytes line (LabelAlone other) tokens r =
    rw r.goes_on.0 (regroup (next (refl, refl) (after (λ ts k. k.1) r)))
word_allowed bytes line (Instructs other at step) tokens r =
    rw r.goes_on.0 (tt, regroup (next (refl, refl) (after (λ ts k. k.1) r)))
word_allowed bytes line (Opens other at operator x) tokens r =
    rw r.goes_on.0 (regroup (next (refl, refl) (after (λ ts k. k.1) r)))

word_or_operator : (bytes : List ℕ) (line : ℕ) (operation : Option Operation) → found operations (name_of bytes) ≡ operation
    → Allows (FromStart InBody) (mark_on (Identifier bytes) line) (Some (operator_or_label (record { line = line; name = name_of bytes }) operation))
word_or_operator bytes line None e = word_allowed bytes line
word_or_operator bytes line (Some operation) e = start_operator InBody (Identifier bytes) line operation e tt

start_allowed : (symbol : Symbol) (line : ℕ) (colon : Bool) → Allows (FromStart InBody) (mark_on symbol line) (at_start symbol line colon)
start_allowed (Identifier bytes) line true = word_allowed bytes line
start_allowed (Identifier bytes) line false = word_or_operator bytes line (found operations (name_of bytes)) refl
start_allowed Ampersand line colon = at_operator_allowed Ampersand line _ refl
start_allowed AmpersandN line colon = at_operator_allowed AmpersandN line _ refl
start_allowed _ line colon = tt

simple_allowed : (symbol : Symbol) (line : ℕ) (operation : Option Operation) → operation_of symbol ≡ operation
    → Allows (FromStart InParentheses) (mark_on symbol line) (simple_operator line operation)
simple_allowed symbol line None e = tt
simple_allowed symbol line (Some operation) e = by_transfer (is_transfer operation) refl
  where
    by_transfer : (b : Bool) → is_transfer operation ≡ b → Allows (FromStart InParentheses) (mark_on symbol line) (if b then None else Some (after_operator None line operation))
    by_transfer true t = tt
    by_transfer false t = start_operator InParentheses symbol line operation e t

labelled_operator : (label : Word) (symbol : Symbol) (line : ℕ) (operation : Option Operation) → operation_of symbol ≡ operation
    → AllowsFrom (Labelled label) (mark_on symbol line) (at_operator (Some label) line operation)
labelled_operator label symbol line None e = tt
labelled_operator label symbol line (Some operation) e =
    operator_allowed InBody (Some label) line (λ m line_shape tokens. labelled_rest label line_shape (m ∷ tokens)) symbol operation e tt (λ step tokens represents h. (refl, h)) (λ operator x tokens h. (refl, h))

label_allowed : (label : Word) (symbol : Symbol) (line : ℕ) → AllowsFrom (Labelled label) (mark_on symbol line) (at_labelled label symbol line)
label_allowed label LineEnd line = λ line_shape tokens r. rw r.0 (refl, line_end line tokens r.1)
label_allowed label symbol line = labelled_operator label symbol line (operation_of symbol) refl

operated_operand : (started : StartedLine) (operating : OperandOperator) (symbol : Symbol) (line : ℕ) → AllowsFrom (Operated started operating) (mark_on symbol line) (at_operand started (OfStep operating) symbol line)
operated_operand started operating symbol line =
    allows_more (λ m line_shape tokens. operand_rest started (OfStep operating) operand line_shape (m ∷ tokens)) (λ m line_shape tokens. rest_of (Operated started operating) line_shape (m ∷ tokens)) (mark_on symbol line) _ (λ line_shape tokens r. inl r) (operand_allowed started (OfStep operating) symbol line)

operated_allowed : (started : StartedLine) (operating : OperandOperator) (symbol : Symbol) (line : ℕ) → AllowsFrom (Operated started operating) (mark_on symbol line) (at_operated started operating symbol line)
operated_allowed started (Applies operator) OpeningBracket line = λ line_shape tokens r. inr (operator, r.0, refl, r.1, next refl r.2)
operated_allowed started operating symbol line = operated_operand started operating symbol line

-- an argument from its input on
first_argument : (bytes : List ℕ) (line : ℕ) (first : Assignment) (others : List Assignment) (tokens : List Mark) → list_rest (AtAssign (name_of bytes)) (first ∷ others) tokens
    → separated (grammar.symbol Comma) argument (first ∷ others) (mark_on (Identifier bytes) line ∷ tokens)
first_argument bytes line first others tokens k = regroup (next (ap (λ n. Some n) k.0) (regroup k.1))

-- after a comma or the bracket an argument begins
argument_allowed : (started : StartedLine) (call : OpenCall) (item : InList) (bytes : List ℕ) (line : ℕ)
    → ((first : Assignment) (others : List Assignment) (tokens : List Mark) → separated (grammar.symbol Comma) argument (first ∷ others) tokens → list_rest item (first ∷ others) tokens)
    → AllowsFrom (Listing started call item) (mark_on (Identifier bytes) line) (Some (Listing started call (AtAssign (name_of bytes))))
argument_allowed started call item bytes line f line_shape tokens r =
    (r.0, r.1, skip_next is_line_end (list_rest item r.0) refl (before (λ ts k. begins_with r.0 _ k) r.2))
  where
    begins_with : (more : List Assignment) (ts : List Mark) → list_rest (AtAssign (name_of bytes)) more ts → list_rest item more (mark_on (Identifier bytes) line ∷ ts)
    begins_with [] ts k = absurd k
    begins_with (first ∷ others) ts k = f first others _ (first_argument bytes line first others ts k)

-- the list's end
closing_allowed : (started : StartedLine) (call : OpenCall) (item : InList) (line : ℕ) → list_rest item [] []
    → AllowsFrom (Listing started call item) (mark_on ClosingBracket line) (Some (Stepped started (Call call.condition call.instance call.arguments)))
closing_allowed started call item line none line_shape tokens r = (
  [],
  r.0 ∙ ap (λ arguments. Instructs started.label started.line (Call call.condition call.instance arguments)) (sym (append-nil call.arguments)),
  skip_none is_line_end (list_rest item []) none (next refl r.1),
)

-- a sign ends no line
sign_no_line_end : (direction : Direction) (line : ℕ) → is_line_end (mark_on (sign_of direction) line) ≡ false
sign_no_line_end Into line = refl
sign_no_line_end OutOf line = refl

sign_allowed : (started : StartedLine) (call : OpenCall) (formal : Formal) (line : ℕ)
    → AllowsFrom (Listing started call (AtAssign formal.name)) (mark_on (sign_of formal.direction) line) (Some (Listing started call (AtValue formal)))
sign_allowed started call formal line line_shape tokens r =
    (r.0, r.1, skip_next is_line_end (list_rest (AtAssign formal.name) r.0) (sign_no_line_end formal.direction line) (before (λ ts k. begins_with r.0 _ k) r.2))
  where
    begins_with : (more : List Assignment) (ts : List Mark) → list_rest (AtValue formal) more ts → list_rest (AtAssign formal.name) more (mark_on (sign_of formal.direction) line ∷ ts)
    begins_with [] ts k = absurd k
    begins_with (first ∷ others) ts k = (ap (λ (f : Formal). f.name) k.0, next (ap (λ (f : Formal). sign_of f.direction) k.0) k.1)

comma_allowed : (started : StartedLine) (call : OpenCall) (line : ℕ) → AllowsFrom (Listing started call AtEnd) (mark_on Comma line) (Some (Listing started call AtNext))
comma_allowed started call line line_shape tokens r = (r.0, r.1, skip_next is_line_end (more_arguments r.0) refl (before (λ ts k. begins_with r.0 _ k) r.2))
  where
    begins_with : (more : List Assignment) (ts : List Mark) → list_rest AtNext more ts → more_arguments more (mark_on Comma line ∷ ts)
    begins_with [] ts k = absurd k
    begins_with (first ∷ others) ts k = regroup (next refl k)

value_allowed : (started : StartedLine) (call : OpenCall) (input : Formal) (symbol : Symbol) (line : ℕ)
    → AllowsFrom (Listing started call (AtValue input)) (mark_on symbol line) (at_operand started (OfArgument call input) symbol line)
value_allowed started call input symbol line =
    allows_more (λ m line_shape tokens. operand_rest started (OfArgument call input) operand line_shape (m ∷ tokens)) (λ m line_shape tokens. rest_of (Listing started call (AtValue input)) line_shape (m ∷ tokens)) (mark_on symbol line) _
    (λ line_shape tokens r. (with_actual input r.0 ∷ r.1, r.2, before (λ ts k. (refl, k)) r.3))
    (operand_allowed started (OfArgument call input) symbol line)

list_allowed : (started : StartedLine) (call : OpenCall) (item : InList) (symbol : Symbol) (line : ℕ) → AllowsFrom (Listing started call item) (mark_on symbol line) (at_list started call item symbol line)
list_allowed started call item LineEnd line = λ line_shape tokens r. (r.0, r.1, skip_over is_line_end (list_rest item r.0) refl r.2)
list_allowed started call AtFirst (Identifier bytes) line = argument_allowed started call AtFirst bytes line (λ first others tokens k. k)
list_allowed started call AtFirst ClosingBracket line = closing_allowed started call AtFirst line refl
list_allowed started call AtNext (Identifier bytes) line = argument_allowed started call AtNext bytes line (λ first others tokens k. k)
list_allowed started call (AtAssign name) Assign line = sign_allowed started call (record { direction = Into; name = name }) line
list_allowed started call (AtAssign name) Arrow line = sign_allowed started call (record { direction = OutOf; name = name }) line
list_allowed started call (AtValue input) symbol line = value_allowed started call input symbol line
list_allowed started call AtEnd Comma line = comma_allowed started call line
list_allowed started call AtEnd ClosingBracket line = closing_allowed started call AtEnd line refl
list_allowed started call item _ line = tt

bracket_operand : (started : StartedLine) (operator : Operator) (symbol : Symbol) (line : ℕ) → AllowsFrom (Bracketed started operator) (mark_on symbol line) (at_operand started (OfOpening operator) symbol line)
bracket_operand started operator symbol line =
    allows_more (λ m line_shape tokens. operand_rest started (OfOpening operator) operand line_shape (m ∷ tokens)) (λ m line_shape tokens. rest_of (Bracketed started operator) line_shape (m ∷ tokens)) (mark_on symbol line) _ (λ line_shape tokens r. (Some r.0, r.1, r.2)) (operand_allowed started (OfOpening operator) symbol line)

bracket_allowed : (started : StartedLine) (operator : Operator) (symbol : Symbol) (line : ℕ) → AllowsFrom (Bracketed started operator) (mark_on symbol line) (at_bracketed started operator symbol line)
bracket_allowed started operator LineEnd line = λ line_shape tokens r. (None, r.0, pass refl (line_end line tokens r.1))
bracket_allowed started operator symbol line = bracket_operand started operator symbol line

-- the argument whose value this name is, and the next
named_argument : (name : Name) (line : ℕ) (more : List Assignment) (tokens : List Mark) → list_rest AtNext more tokens
    → (after_its_name name (Variable name) then more_arguments more) (mark_on Comma line ∷ tokens)
named_argument name line [] tokens k = absurd k
named_argument name line (first ∷ others) tokens k = pass (refl, refl) (regroup (next refl k))

name_after : (started : StartedLine) (place : OperandOf) (name : Name) (symbol : Symbol) (line : ℕ) → AllowsFrom (Named started place name) (mark_on symbol line) (after_name started place name symbol)
name_after started (OfStep operating) name LineEnd line = λ line_shape tokens r. (Variable name, r.0, pass (refl, refl) (line_end line tokens r.1))
name_after started (OfOpening operator) name LineEnd line = λ line_shape tokens r. (Variable name, r.0, pass (refl, refl) (line_end line tokens r.1))
name_after started (OfArgument call input) name LineEnd line = λ line_shape tokens r. (r.0, r.1, r.2, skip_over is_line_end (after_its_name name r.0 then more_arguments r.1) refl r.3)
name_after started (OfArgument call input) name Comma line = λ line_shape tokens r. (
  Variable name,
  r.0,
  r.1 ∙ one_argument started call input (Variable name) r.0,
  skip_next is_line_end (after_its_name name (Variable name) then more_arguments r.0) refl (before (λ ts k. named_argument name line r.0 _ k) r.2),
)
name_after started (OfArgument call input) name ClosingBracket line = λ line_shape tokens r.
    (Variable name, [], r.0, skip_none is_line_end (after_its_name name (Variable name) then more_arguments []) (pass (refl, refl) refl) (next refl r.1))
name_after started place name _ line = tt

pointed : (started : StartedLine) (place : OperandOf) (name : Name) (line : ℕ) → AllowsFrom (Named started place name) (mark_on Point line) (Some (Pointed started place name))
pointed started place name line = part_of_operand started place (after_its_name name) (after_its_point name) _ refl field
  where
    field : (x : Term) (ts : List Mark) → after_its_point name x ts → after_its_name name x (mark_on Point line ∷ ts)
    field (Constant value) ts k = absurd k
    field (Address word) ts k = absurd k
    field (Variable other) ts k = absurd k
    field (Field instance other) ts k = (k.0, next refl k.1)

named_allowed : (started : StartedLine) (place : OperandOf) (name : Name) (symbol : Symbol) (line : ℕ) (setting : Setting) (colon : Bool)
    → AllowsFrom (Named started place name) (mark_on symbol line) (line_move setting (Named started place name) symbol line colon)
named_allowed started place name Point line setting colon = pointed started place name line
named_allowed started place name symbol line setting colon = name_after started place name symbol line

field_allowed : (started : StartedLine) (place : OperandOf) (name : Name) (symbol : Symbol) (line : ℕ) → AllowsFrom (Pointed started place name) (mark_on symbol line) (at_field started place name symbol)
field_allowed started place name (Identifier bytes) line = whole_operand started place (after_its_point name) (Field name (name_of bytes)) _ refl (refl, refl)
field_allowed started (OfArgument call input) name LineEnd line = λ line_shape tokens r. (r.0, r.1, r.2, skip_over is_line_end (after_its_point name r.0 then more_arguments r.1) refl r.3)
field_allowed started place name _ line = tt

instance_allowed : (started : StartedLine) (condition : Condition) (instance : Name) (line : ℕ)
    → AllowsFrom (Instanced started condition instance) (mark_on OpeningBracket line) (Some (Listing started (record { condition = condition; instance = instance; arguments = [] }) AtFirst))
instance_allowed started condition instance line line_shape tokens r = (r.0, r.1, listed r.0 (regroup (next refl (regroup r.2))))
  where
    listed : (arguments : List Assignment) → (bracketed arguments then end_of_line) (mark_on OpeningBracket line ∷ tokens) → (call_list arguments then end_of_line) (mark_on OpeningBracket line ∷ tokens)
    listed [] k = before (λ ts h. inr h) k
    listed (first ∷ others) k = k

-- after each token that the walk takes on a line that has started, the line may go on
pub move_allowed : (setting : Setting) (state : LineState) (symbol : Symbol) (line : ℕ) (colon : Bool) → state ≢ Start
    → AllowsFrom state (mark_on symbol line) (line_move setting state symbol line colon)
move_allowed setting Start symbol line colon n = absurd (n refl)
move_allowed setting (Worded label) Colon line colon n = λ line_shape tokens r. next refl r
move_allowed setting (Labelled label) symbol line colon n = label_allowed label symbol line
move_allowed setting (Operated started operating) symbol line colon n = operated_allowed started operating symbol line
move_allowed setting (Jumped started condition) (Identifier bytes) line colon n = λ line_shape tokens r. (name_of bytes, r.0, next refl r.1)
move_allowed setting (Called started condition) (Identifier bytes) line colon n = λ line_shape tokens r. (name_of bytes, r.0, r.1, next refl r.2)
move_allowed setting (Instanced started condition instance) LineEnd line colon n = λ line_shape tokens r. ([], r.0, pass (inl refl) (line_end line tokens r.1))
move_allowed setting (Instanced started condition instance) OpeningBracket line colon n = instance_allowed started condition instance line
move_allowed setting (Listing started call item) symbol line colon n = list_allowed started call item symbol line
move_allowed setting (Bracketed started operator) symbol line colon n = bracket_allowed started operator symbol line
move_allowed setting (Named started place name) symbol line colon n = named_allowed started place name symbol line setting colon
move_allowed setting (Pointed started place name) symbol line colon n = field_allowed started place name symbol line
move_allowed setting (Stepped started step) LineEnd line colon n = λ line_shape tokens r. (r.0, line_end line tokens r.1)
move_allowed setting (BracketedWith started operator operand) LineEnd line colon n = λ line_shape tokens r. (r.0, line_end line tokens r.1)
move_allowed setting _ symbol line colon n = tt

-- and so it may after the first token of a line
pub start_move_allowed : (setting : Setting) (symbol : Symbol) (line : ℕ) (colon : Bool) → Allows (FromStart setting) (mark_on symbol line) (at_start_in setting symbol line colon)
start_move_allowed InBody symbol line colon = start_allowed symbol line colon
start_move_allowed InParentheses symbol line colon = simple_allowed symbol line (operation_of symbol) refl
