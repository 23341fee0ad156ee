-- What completes a line is taken by the walk, token by token.
use Rattle.std.proofs.Common.{◌≡◌, ◌≢◌, ℕ, Bool, false, List, [], ◌∷◌, Option, Some, None, refl, ap, subst, append-nil, ◌∙◌, sym, inl, inr}
use Rattle.std.specs.Prelude.{◌⊎◌, not, filter}
use Rattle.wc_laws_grammar.specs.{Formal, formal_of, with_actual, LineShape, LabelAlone, Instructs, Opens, StartedLine, OpenCall, OperandOf, OfStep, OfOpening, OfArgument, InList, AtFirst, AtNext, AtAssign, AtValue, AtEnd, LineState, Start, Worded, Labelled, Operated, Jumped, Called, Instanced, Listing, Bracketed, Named, Pointed, Stepped, BracketedWith, Ended, after_operand, name_or_literal, at_operand, after_operator, at_operator, at_labelled, at_operated, at_list, at_bracketed, at_field, line_move, OperandOperator, Loads, Stores, Applies, Operation, Operates, found, operation_of, step_of, truths}
use Rattle.wc_laws_grammar.proofs.LineRests.{after_its_name, after_its_point, more_arguments, list_rest, list_end, call_shape, operand_rest, labelled_rest, rest_of}
use Rattle.wc_laws_grammar.proofs.LineSound.{mark_on, one_argument}
use Rattle.wc_laws_grammar.proofs.Skipping.{following, skip_next_is, skip_over_is}
use Rattle.wc_laws_grammar.proofs.WordLaws.{step_begins, operator_is, operation_in, truth_is_found, no_truth}
use Rattle.wc_laws_grammar.proofs.Languages.{next_is, passed, both_empty, given_are, given_first, ungroup, pass}
use Rattle.wc_model.specs.Text.Grammar as grammar
use Rattle.wc_model.specs.Definitions.{sign_of, operand, argument, call_list, bracketed, instruction, opening, operands_of, IsLiteral, Setting, truth_word, ◌then◌, empty, optional, separated, skipping, Name, name_of}
use Rattle.wc_model.specs.Text.Marks.{Symbol, Identifier, Direct, OpeningBracket, ClosingBracket, Comma, Colon, Point, Assign, Arrow, LineEnd, Mark, is_line_end, is_line_end_symbol, name_in, address_in}
use Rattle.wc_model.specs.Language.Tree.{Word, Term, Constant, Address, Variable, Field, Assignment, Step, Load, Store, Apply, Negate, Jump, Call, Return}
use Rattle.wc_model.specs.declared.operator.Condition.{Condition}
use Rattle.wc_model.specs.declared.operator.Direction.{Direction}
use Rattle.wc_model.specs.declared.operator.Direction.TheVariants.{Into, OutOf}
use Rattle.wc_model.specs.declared.operator.Operator.{Operator}
use Rattle.wc_model.specs.declared.value.Value.{Value}
use Rattle.wc_model.specs.declared.value.Value.TheVariants.{Bool as BoolValue, Dint, Time}

-- the walk takes a token, after which these complete the line
abbrev pub Leads : Option LineState → LineShape → List Mark → Type 0
Leads None line_shape tokens = ⊥
Leads (Some next) line_shape tokens = rest_of next line_shape tokens

-- what a first token of an operand leads to, whosever operand it is
abbrev LeadsTo : Symbol → ℕ → (StartedLine → OperandOf → LineState) → Type 0
LeadsTo symbol line next = (started : StartedLine) (place : OperandOf) → at_operand started place symbol line ≡ Some (next started place)

-- an operand's first token is the whole operand, or a name after which it goes on
abbrev First : Term → Symbol → ℕ → (List Mark → Type 0) → List Mark → Type 0
First x symbol line second tokens =
    (LeadsTo symbol line (λ started place. after_operand started place x) × second tokens)
    ⊎ ((name : Name) × LeadsTo symbol line (λ started place. Named started place name) × (after_its_name name x then second) tokens)

-- an identifier of a name
pub named : {A : Type 0} (symbol : Symbol) (name : Name) → name_in symbol ≡ Some name → ((bytes : List ℕ) → symbol ≡ Identifier bytes → name_of bytes ≡ name → A) → A
named (Identifier bytes) name e f = f bytes refl (cc)
named _ name e f = absurd (cc)

literal_first : (value : Value) (symbol : Symbol) (line : ℕ) → IsLiteral value (mark_on symbol line) → LeadsTo symbol line (λ started place. after_operand started place (Constant value))
literal_first (BoolValue value) symbol line (inl e) = subst (λ s. LeadsTo s line (λ started place. after_operand started place (Constant (BoolValue value)))) (sym e) (λ started place. refl)
literal_first (BoolValue value) symbol line (inr e) =
    named symbol (truth_word value) e (λ bytes s n. subst (λ s. LeadsTo s line (λ started place. after_operand started place (Constant (BoolValue value)))) (sym s)
    (λ started place. ap (λ truth. Some (name_or_literal started place (name_of bytes) truth)) (ap (found truths) n ∙ truth_is_found value)))
literal_first (Dint number) symbol line e = subst (λ s. LeadsTo s line (λ started place. after_operand started place (Constant (Dint number)))) (sym e) (λ started place. refl)
literal_first (Time number) symbol line e = subst (λ s. LeadsTo s line (λ started place. after_operand started place (Constant (Time number)))) (sym e) (λ started place. refl)

-- a word by its line and its name
pub word_is : (word : Word) (line : ℕ) (name : Name) → line ≡ word.line → name ≡ word.name → record { line = line; name = name } ≡ word
word_is word line name a b = λ i. record { line = a i; name = b i }

address_first : (word : Word) (symbol : Symbol) (line : ℕ) → address_in symbol ≡ Some word.name → line ≡ word.line → LeadsTo symbol line (λ started place. after_operand started place (Address word))
address_first word (Direct bytes) line e at started place =
    let n : name_of bytes ≡ word.name = cc in
    ap (λ w. Some (after_operand started place (Address w))) (word_is word line (name_of bytes) at n)
address_first word _ line e at started place = absurd (cc)

variable_first : (name : Name) (symbol : Symbol) (line : ℕ) → name_in symbol ≡ Some name → ((value : Bool) → name ≢ truth_word value) → LeadsTo symbol line (λ started place. Named started place name)
variable_first name symbol line e ordinary = named symbol name e (λ bytes s n. subst (λ s. LeadsTo s line (λ started place. Named started place name)) (sym s)
    (λ started place. subst (λ m. Some (name_or_literal started place m (found truths m)) ≡ Some (Named started place name)) (sym n) (ap (λ truth. Some (name_or_literal started place name truth)) (no_truth name ordinary))))

operand_first : (x : Term) (symbol : Symbol) (line : ℕ) (second : List Mark → Type 0) (tokens : List Mark) → (operand x then second) (mark_on symbol line ∷ tokens) → First x symbol line second tokens
operand_first (Constant value) symbol line second tokens h = let k = next_is h in inl (literal_first value symbol line k.0, k.1)
operand_first (Address word) symbol line second tokens h = let k = next_is h in inl (address_first word symbol line k.0.0 k.0.1, k.1)
operand_first (Variable name) symbol line second tokens h =
    let g = given_are h in
    let k = next_is g.1 in
    inr (name, variable_first name symbol line k.0 g.0, pass (refl, refl) k.1)
operand_first (Field instance field) symbol line second tokens h =
    let u = ungroup h in
    let g = given_are u in
    let k = next_is g.1 in
    inr (instance, variable_first instance symbol line k.0 g.0, given_first refl k.1)

-- what a whole operand and the end of its place lead to
at_place : (started : StartedLine) (place : OperandOf) (symbol : Symbol) (line : ℕ) (next : LineState) (line_shape : LineShape) (tokens : List Mark) → at_operand started place symbol line ≡ Some next → rest_of next line_shape tokens
    → Leads (at_operand started place symbol line) line_shape tokens
at_place started place symbol line next line_shape tokens e r = subst (λ o. Leads o line_shape tokens) (sym e) r

operand_led : (started : StartedLine) (place : OperandOf) (x : Term) (line_shape : LineShape) (symbol : Symbol) (line : ℕ) (second : List Mark → Type 0) (kept tokens : List Mark)
    → (second kept → rest_of (after_operand started place x) line_shape tokens)
    → ((name : Name) → (after_its_name name x then second) kept → rest_of (Named started place name) line_shape tokens)
    → First x symbol line second kept → Leads (at_operand started place symbol line) line_shape tokens
operand_led started place x line_shape symbol line second kept tokens whole more (inl h) = at_place started place symbol line _ line_shape tokens (h.0 started place) (whole h.1)
operand_led started place x line_shape symbol line second kept tokens whole more (inr h) = at_place started place symbol line _ line_shape tokens (h.1 started place) (more h.0 h.2)

step_operand_led : (started : StartedLine) (operating : OperandOperator) (line_shape : LineShape) (symbol : Symbol) (line : ℕ) (tokens : List Mark) → operand_rest started (OfStep operating) operand line_shape (mark_on symbol line ∷ tokens)
    → Leads (at_operand started (OfStep operating) symbol line) line_shape tokens
step_operand_led started operating line_shape symbol line tokens r =
    operand_led started (OfStep operating) r.0 line_shape symbol line (grammar.symbol LineEnd) tokens tokens (λ k. (r.1, k)) (λ name k. (r.0, r.1, k)) (operand_first r.0 symbol line (grammar.symbol LineEnd) tokens r.2)

opening_operand_led : (started : StartedLine) (operator : Operator) (x : Term) (line_shape : LineShape) (symbol : Symbol) (line : ℕ) (tokens : List Mark) → line_shape ≡ Opens started.label started.line operator (Some x)
    → (operand x then grammar.symbol LineEnd) (mark_on symbol line ∷ tokens) → Leads (at_operand started (OfOpening operator) symbol line) line_shape tokens
opening_operand_led started operator x line_shape symbol line tokens e r =
    operand_led started (OfOpening operator) x line_shape symbol line (grammar.symbol LineEnd) tokens tokens (λ k. (e, k)) (λ name k. (x, e, k)) (operand_first x symbol line (grammar.symbol LineEnd) tokens r)

-- no operand is empty
some_operand : (x : Term) → ¬ (operand x [])
some_operand (Constant value) h = h
some_operand (Address word) h = h
some_operand (Variable name) h = h.1
some_operand (Field instance field) h = (both_empty h).0.1

-- no list's end begins with this token
no_end : (symbol : Symbol) (line : ℕ) (tokens : List Mark) → symbol ≢ ClosingBracket → ¬ (list_end (mark_on symbol line ∷ tokens))
no_end symbol line tokens n h = n (next_is h).0

argument_is : (input : Formal) (first : Assignment) → input ≡ formal_of first → first ≡ with_actual input first.actual
argument_is input first e = λ i. with_actual (sym e i) first.actual

-- an argument's value, whose kept tokens these are
kept_value_led : (started : StartedLine) (call : OpenCall) (input : Formal) (first : Assignment) (others : List Assignment) (line_shape : LineShape) (symbol : Symbol) (line : ℕ) (tokens : List Mark)
    → line_shape ≡ call_shape started call (first ∷ others) → input ≡ formal_of first
    → (skipping is_line_end (following (mark_on symbol line) (operand first.actual then more_arguments others)) then list_end) tokens
    → Leads (at_operand started (OfArgument call input) symbol line) line_shape tokens
kept_value_led started call input first others line_shape symbol line tokens e same k =
    operand_led started (OfArgument call input) first.actual line_shape symbol line (more_arguments others) _ tokens
    (λ left. (others, is ∙ sym (one_argument started call input first.actual others), record { prefix = k.prefix; rest = k.rest; whole = k.whole; begins = left; goes_on = k.goes_on }))
    (λ name left. (first.actual, others, is, record { prefix = k.prefix; rest = k.rest; whole = k.whole; begins = left; goes_on = k.goes_on }))
    (operand_first first.actual symbol line (more_arguments others) _ k.begins)
  where
    is : line_shape ≡ call_shape started call (with_actual input first.actual ∷ others)
    is = e ∙ ap (λ a. call_shape started call (a ∷ others)) (argument_is input first same)

value_led : (started : StartedLine) (call : OpenCall) (input : Formal) (line_shape : LineShape) (symbol : Symbol) (line : ℕ) (tokens : List Mark) → is_line_end_symbol symbol ≡ false
    → rest_of (Listing started call (AtValue input)) line_shape (mark_on symbol line ∷ tokens) → Leads (at_operand started (OfArgument call input) symbol line) line_shape tokens
value_led started call input line_shape symbol line tokens no_line_end r = by_arguments r.0 r.1 (skip_next_is is_line_end (list_rest (AtValue input) r.0) no_line_end r.2)
  where
    by_arguments : (more : List Assignment) → line_shape ≡ call_shape started call more
        → (list_rest (AtValue input) more [] × list_end (mark_on symbol line ∷ tokens)) ⊎ (skipping is_line_end (following (mark_on symbol line) (list_rest (AtValue input) more)) then list_end) tokens
        → Leads (at_operand started (OfArgument call input) symbol line) line_shape tokens
    by_arguments [] e (inl k) = absurd k.0
    by_arguments [] e (inr k) = absurd k.begins
    by_arguments (first ∷ others) e (inl k) = absurd (some_operand first.actual (both_empty k.0.1).0)
    by_arguments (first ∷ others) e (inr k) =
        kept_value_led started call input first others line_shape symbol line tokens e k.begins.0 (record { prefix = k.prefix; rest = k.rest; whole = k.whole; begins = k.begins.1; goes_on = k.goes_on })

-- the first of a list's arguments
first_argument_led : (bytes : List ℕ) (line : ℕ) (first : Assignment) (others : List Assignment) (tokens : List Mark) → separated (grammar.symbol Comma) argument (first ∷ others) (mark_on (Identifier bytes) line ∷ tokens)
    → list_rest (AtAssign (name_of bytes)) (first ∷ others) tokens
first_argument_led bytes line first others tokens h =
    let k = next_is (ungroup h) in
    let e = k.0 in ((cc), ungroup k.1)

-- a line's end, after which there is nothing
pub end_is : (symbol : Symbol) (line : ℕ) (tokens : List Mark) → grammar.symbol LineEnd (mark_on symbol line ∷ tokens) → (symbol ≡ LineEnd) × (tokens ≡ [])
end_is symbol line [] h = (h, refl)
end_is symbol line (x ∷ xs) h = absurd h

-- a token that is this symbol leads where the symbol does
pub by_symbol : (f : Symbol → Option LineState) (symbol other : Symbol) (line_shape : LineShape) (tokens : List Mark) → symbol ≡ other → Leads (f other) line_shape tokens → Leads (f symbol) line_shape tokens
by_symbol f symbol other line_shape tokens e h = subst (λ s. Leads (f s) line_shape tokens) (sym e) h

-- the end of a list in which nothing is missing
closed_list : (started : StartedLine) (call : OpenCall) (item : InList) (line_shape : LineShape) (symbol : Symbol) (line : ℕ) (tokens : List Mark)
    → at_list started call item ClosingBracket line ≡ Some (Stepped started (Call call.condition call.instance call.arguments))
    → line_shape ≡ call_shape started call [] → list_end (mark_on symbol line ∷ tokens) → Leads (at_list started call item symbol line) line_shape tokens
closed_list started call item line_shape symbol line tokens here e h =
    let k = next_is h in
    by_symbol (λ s. at_list started call item s line) symbol ClosingBracket line_shape tokens k.0
    (subst (λ o. Leads o line_shape tokens) (sym here) (e ∙ ap (λ arguments. Instructs started.label started.line (Call call.condition call.instance arguments)) (append-nil call.arguments), k.1))

-- an argument begins
argument_led : (started : StartedLine) (call : OpenCall) (item : InList) (first : Assignment) (others : List Assignment) (line_shape : LineShape) (symbol : Symbol) (line : ℕ) (tokens : List Mark)
    → ((bytes : List ℕ) → at_list started call item (Identifier bytes) line ≡ Some (Listing started call (AtAssign (name_of bytes))))
    → line_shape ≡ call_shape started call (first ∷ others)
    → (skipping is_line_end (following (mark_on symbol line) (separated (grammar.symbol Comma) argument (first ∷ others))) then list_end) tokens
    → Leads (at_list started call item symbol line) line_shape tokens
argument_led started call item first others line_shape symbol line tokens here e k =
    named symbol first.formal (next_is (ungroup k.begins)).0 (λ bytes s n.
    by_symbol (λ s. at_list started call item s line) symbol (Identifier bytes) line_shape tokens s
    (subst (λ o. Leads o line_shape tokens) (sym (here bytes)) (
      first ∷ others,
      e,
      record {
        prefix = k.prefix;
        rest = k.rest;
        whole = k.whole;
        begins = first_argument_led bytes line first others _ (subst (λ s. separated (grammar.symbol Comma) argument (first ∷ others) (mark_on s line ∷ filter (λ token. not (is_line_end token)) k.prefix)) s k.begins);
        goes_on = k.goes_on;
      },
    )))

first_led : (started : StartedLine) (call : OpenCall) (line_shape : LineShape) (symbol : Symbol) (line : ℕ) (tokens : List Mark) (more : List Assignment) → line_shape ≡ call_shape started call more
    → (list_rest AtFirst more [] × list_end (mark_on symbol line ∷ tokens)) ⊎ (skipping is_line_end (following (mark_on symbol line) (list_rest AtFirst more)) then list_end) tokens
    → Leads (at_list started call AtFirst symbol line) line_shape tokens
first_led started call line_shape symbol line tokens [] e (inl k) = closed_list started call AtFirst line_shape symbol line tokens refl e k.1
first_led started call line_shape symbol line tokens [] e (inr k) = let f = k.begins in absurd (cc)
first_led started call line_shape symbol line tokens (first ∷ others) e (inl k) = absurd ((both_empty (both_empty k.0).0).0)
first_led started call line_shape symbol line tokens (first ∷ others) e (inr k) = argument_led started call AtFirst first others line_shape symbol line tokens (λ bytes. refl) e k

next_led : (started : StartedLine) (call : OpenCall) (line_shape : LineShape) (symbol : Symbol) (line : ℕ) (tokens : List Mark) (more : List Assignment) → line_shape ≡ call_shape started call more
    → (list_rest AtNext more [] × list_end (mark_on symbol line ∷ tokens)) ⊎ (skipping is_line_end (following (mark_on symbol line) (list_rest AtNext more)) then list_end) tokens
    → Leads (at_list started call AtNext symbol line) line_shape tokens
next_led started call line_shape symbol line tokens [] e (inl k) = absurd k.0
next_led started call line_shape symbol line tokens [] e (inr k) = absurd k.begins
next_led started call line_shape symbol line tokens (first ∷ others) e (inl k) = absurd ((both_empty (both_empty k.0).0).0)
next_led started call line_shape symbol line tokens (first ∷ others) e (inr k) = argument_led started call AtNext first others line_shape symbol line tokens (λ bytes. refl) e k

assign_led : (started : StartedLine) (call : OpenCall) (input : Name) (line_shape : LineShape) (symbol : Symbol) (line : ℕ) (tokens : List Mark) (more : List Assignment) → line_shape ≡ call_shape started call more
    → (list_rest (AtAssign input) more [] × list_end (mark_on symbol line ∷ tokens)) ⊎ (skipping is_line_end (following (mark_on symbol line) (list_rest (AtAssign input) more)) then list_end) tokens
    → Leads (at_list started call (AtAssign input) symbol line) line_shape tokens
assign_led started call input line_shape symbol line tokens [] e (inl k) = absurd k.0
assign_led started call input line_shape symbol line tokens [] e (inr k) = absurd k.begins
assign_led started call input line_shape symbol line tokens (first ∷ others) e (inl k) = absurd ((both_empty k.0.1).0)
assign_led started call input line_shape symbol line tokens (first ∷ others) e (inr k) = by_sign first.direction refl (next_is k.begins.1).0
  where
    led : (direction : Direction) → first.direction ≡ direction → rest_of (Listing started call (AtValue (record { direction = direction; name = input }))) line_shape tokens
    led direction d = (first ∷ others, e, record { prefix = k.prefix; rest = k.rest; whole = k.whole; begins = (λ i. record { direction = sym d i; name = k.begins.0 i }, (next_is k.begins.1).1); goes_on = k.goes_on })

    by_sign : (direction : Direction) → first.direction ≡ direction → symbol ≡ sign_of direction → Leads (at_list started call (AtAssign input) symbol line) line_shape tokens
    by_sign Into d s = by_symbol (λ s. at_list started call (AtAssign input) s line) symbol Assign line_shape tokens s (led Into d)
    by_sign OutOf d s = by_symbol (λ s. at_list started call (AtAssign input) s line) symbol Arrow line_shape tokens s (led OutOf d)

end_led : (started : StartedLine) (call : OpenCall) (line_shape : LineShape) (symbol : Symbol) (line : ℕ) (tokens : List Mark) (more : List Assignment) → line_shape ≡ call_shape started call more
    → (list_rest AtEnd more [] × list_end (mark_on symbol line ∷ tokens)) ⊎ (skipping is_line_end (following (mark_on symbol line) (list_rest AtEnd more)) then list_end) tokens
    → Leads (at_list started call AtEnd symbol line) line_shape tokens
end_led started call line_shape symbol line tokens [] e (inl k) = closed_list started call AtEnd line_shape symbol line tokens refl e k.1
end_led started call line_shape symbol line tokens [] e (inr k) = let f = k.begins in absurd (cc)
end_led started call line_shape symbol line tokens (first ∷ others) e (inl k) = absurd ((both_empty (both_empty k.0).0).0)
end_led started call line_shape symbol line tokens (first ∷ others) e (inr k) =
    let n = next_is (ungroup k.begins) in
    by_symbol (λ s. at_list started call AtEnd s line) symbol Comma line_shape tokens n.0
    (first ∷ others, e, record { prefix = k.prefix; rest = k.rest; whole = k.whole; begins = n.1; goes_on = k.goes_on })

-- a region of a list after a line end
over_led : (language : List Mark → Type 0) (line : ℕ) (tokens : List Mark) → (skipping is_line_end language then list_end) (mark_on LineEnd line ∷ tokens) → (skipping is_line_end language then list_end) tokens
over_led language line tokens h = elim (skip_over_is is_line_end language refl h) [
  | inl k ↦ let e = (next_is k).0 in absurd (cc)
  | inr k ↦ k
]

list_led : (started : StartedLine) (call : OpenCall) (item : InList) (line_shape : LineShape) (symbol : Symbol) (line : ℕ) (tokens : List Mark)
    → rest_of (Listing started call item) line_shape (mark_on symbol line ∷ tokens) → Leads (at_list started call item symbol line) line_shape tokens
list_led started call item line_shape LineEnd line tokens r = (r.0, r.1, over_led (list_rest item r.0) line tokens r.2)
list_led started call AtFirst line_shape symbol line tokens r = first_led started call line_shape symbol line tokens r.0 r.1 (skip_next_is is_line_end (list_rest AtFirst r.0) refl r.2)
list_led started call AtNext line_shape symbol line tokens r = next_led started call line_shape symbol line tokens r.0 r.1 (skip_next_is is_line_end (list_rest AtNext r.0) refl r.2)
list_led started call (AtAssign input) line_shape symbol line tokens r = assign_led started call input line_shape symbol line tokens r.0 r.1 (skip_next_is is_line_end (list_rest (AtAssign input) r.0) refl r.2)
list_led started call (AtValue input) line_shape symbol line tokens r = value_led started call input line_shape symbol line tokens refl r
list_led started call AtEnd line_shape symbol line tokens r = end_led started call line_shape symbol line tokens r.0 r.1 (skip_next_is is_line_end (list_rest AtEnd r.0) refl r.2)

-- after a name, if the operand ends its line
name_led : (started : StartedLine) (place : OperandOf) (make : Term → LineShape) (name : Name) (x : Term) (line_shape : LineShape) (symbol : Symbol) (line : ℕ) (tokens : List Mark) (setting : Setting) (colon : Bool)
    → line_move setting (Named started place name) LineEnd line colon ≡ Some (Ended (make (Variable name)))
    → ((x : Term) → line_shape ≡ make x → (after_its_point name x then grammar.symbol LineEnd) tokens → rest_of (Pointed started place name) line_shape tokens)
    → line_shape ≡ make x → (after_its_name name x then grammar.symbol LineEnd) (mark_on symbol line ∷ tokens)
    → Leads (line_move setting (Named started place name) symbol line colon) line_shape tokens
name_led started place make name (Constant value) line_shape symbol line tokens setting colon here there e h = absurd (h.begins)
name_led started place make name (Address word) line_shape symbol line tokens setting colon here there e h = absurd (h.begins)
name_led started place make name (Variable other) line_shape symbol line tokens setting colon here there e h =
    let g = given_are h in
    let k = end_is symbol line tokens (passed g.1) in
    by_symbol (λ s. line_move setting (Named started place name) s line colon) symbol LineEnd line_shape tokens k.0
    (subst (λ o. Leads o line_shape tokens) (sym here) (e ∙ ap (λ n. make (Variable n)) (sym g.0), k.1))
name_led started place make name (Field instance field) line_shape symbol line tokens setting colon here there e h =
    let g = given_are h in
    let k = next_is (ungroup g.1) in
    by_symbol (λ s. line_move setting (Named started place name) s line colon) symbol Point line_shape tokens k.0 (there (Field instance field) e (given_first g.0 k.1))

-- after a name in a call's list, at a token that is not a line end
name_argument_led : (started : StartedLine) (call : OpenCall) (input : Formal) (name : Name) (x : Term) (more : List Assignment) (line_shape : LineShape) (symbol : Symbol) (line : ℕ) (tokens : List Mark) (setting : Setting) (colon : Bool)
    → line_shape ≡ call_shape started call (with_actual input x ∷ more)
    → ((after_its_name name x then more_arguments more) [] × list_end (mark_on symbol line ∷ tokens))
    ⊎ (skipping is_line_end (following (mark_on symbol line) (after_its_name name x then more_arguments more)) then list_end) tokens
    → Leads (line_move setting (Named started (OfArgument call input) name) symbol line colon) line_shape tokens
name_argument_led started call input name (Constant value) more line_shape symbol line tokens setting colon e (inl k) = absurd (k.0.begins)
name_argument_led started call input name (Address word) more line_shape symbol line tokens setting colon e (inl k) = absurd (k.0.begins)
name_argument_led started call input name (Field instance field) more line_shape symbol line tokens setting colon e (inl k) = absurd ((both_empty (both_empty k.0).0.1).0)
name_argument_led started call input name (Variable other) (first ∷ others) line_shape symbol line tokens setting colon e (inl k) = absurd ((both_empty (both_empty (both_empty k.0).1).0).0)
name_argument_led started call input name (Variable other) [] line_shape symbol line tokens setting colon e (inl k) =
    let n = next_is k.1 in
    let same = (both_empty k.0).0.0 in
    by_symbol (λ s. line_move setting (Named started (OfArgument call input) name) s line colon) symbol ClosingBracket line_shape tokens n.0
    (e ∙ ap (λ n. call_shape started call (with_actual input (Variable n) ∷ [])) (sym same), n.1)
name_argument_led started call input name (Constant value) more line_shape symbol line tokens setting colon e (inr k) = absurd (k.begins.begins)
name_argument_led started call input name (Address word) more line_shape symbol line tokens setting colon e (inr k) = absurd (k.begins.begins)
name_argument_led started call input name (Variable other) [] line_shape symbol line tokens setting colon e (inr k) = let f = passed (given_are k.begins).1 in absurd (cc)
name_argument_led started call input name (Variable other) (first ∷ others) line_shape symbol line tokens setting colon e (inr k) =
    let g = given_are k.begins in
    let n = next_is (ungroup (passed g.1)) in
    by_symbol (λ s. line_move setting (Named started (OfArgument call input) name) s line colon) symbol Comma line_shape tokens n.0 (
      first ∷ others,
      e ∙ ap (λ n. call_shape started call (with_actual input (Variable n) ∷ first ∷ others)) (sym g.0) ∙ sym (one_argument started call input (Variable name) (first ∷ others)),
      record { prefix = k.prefix; rest = k.rest; whole = k.whole; begins = n.1; goes_on = k.goes_on },
    )
name_argument_led started call input name (Field instance field) more line_shape symbol line tokens setting colon e (inr k) =
    let g = given_are k.begins in
    let n = next_is (ungroup g.1) in
    by_symbol (λ s. line_move setting (Named started (OfArgument call input) name) s line colon) symbol Point line_shape tokens n.0
    (Field instance field, more, e, record { prefix = k.prefix; rest = k.rest; whole = k.whole; begins = given_first g.0 n.1; goes_on = k.goes_on })

named_led : (started : StartedLine) (place : OperandOf) (name : Name) (line_shape : LineShape) (symbol : Symbol) (line : ℕ) (tokens : List Mark) (setting : Setting) (colon : Bool)
    → rest_of (Named started place name) line_shape (mark_on symbol line ∷ tokens) → Leads (line_move setting (Named started place name) symbol line colon) line_shape tokens
named_led started (OfStep operating) name line_shape symbol line tokens setting colon r =
    name_led started (OfStep operating) (λ x. Instructs started.label started.line (step_of operating x)) name r.0 line_shape symbol line tokens setting colon refl (λ x e k. (x, e, k)) r.1 r.2
named_led started (OfOpening operator) name line_shape symbol line tokens setting colon r =
    name_led started (OfOpening operator) (λ x. Opens started.label started.line operator (Some x)) name r.0 line_shape symbol line tokens setting colon refl (λ x e k. (x, e, k)) r.1 r.2
named_led started (OfArgument call input) name line_shape LineEnd line tokens setting colon r = (r.0, r.1, r.2, over_led (after_its_name name r.0 then more_arguments r.1) line tokens r.3)
named_led started (OfArgument call input) name line_shape symbol line tokens setting colon r =
    name_argument_led started call input name r.0 r.1 line_shape symbol line tokens setting colon r.2 (skip_next_is is_line_end (after_its_name name r.0 then more_arguments r.1) refl r.3)

-- after a field's point
point_led : (started : StartedLine) (place : OperandOf) (name : Name) (x : Term) (line_shape : LineShape) (symbol : Symbol) (line : ℕ) (second : List Mark → Type 0) (kept tokens : List Mark)
    → (second kept → rest_of (after_operand started place x) line_shape tokens) → (after_its_point name x then second) (mark_on symbol line ∷ kept)
    → Leads (at_field started place name symbol) line_shape tokens
point_led started place name (Constant value) line_shape symbol line second kept tokens f h = absurd (h.begins)
point_led started place name (Address word) line_shape symbol line second kept tokens f h = absurd (h.begins)
point_led started place name (Variable other) line_shape symbol line second kept tokens f h = absurd (h.begins)
point_led started place name (Field instance field) line_shape symbol line second kept tokens f h =
    let g = given_are h in
    let k = next_is g.1 in
    named symbol field k.0 (λ bytes s n. by_symbol (λ s. at_field started place name s) symbol (Identifier bytes) line_shape tokens s
    (subst (λ x. rest_of (after_operand started place x) line_shape tokens) (field_is instance name field (name_of bytes) g.0 n) (f k.1)))
  where
    field_is : (instance name field other : Name) → name ≡ instance → other ≡ field → Field instance field ≡ Field name other
    field_is instance name field other a b = λ i. Field (sym a i) (sym b i)

pointed_led : (started : StartedLine) (place : OperandOf) (name : Name) (line_shape : LineShape) (symbol : Symbol) (line : ℕ) (tokens : List Mark)
    → rest_of (Pointed started place name) line_shape (mark_on symbol line ∷ tokens) → Leads (at_field started place name symbol) line_shape tokens
pointed_led started (OfStep operating) name line_shape symbol line tokens r = point_led started (OfStep operating) name r.0 line_shape symbol line (grammar.symbol LineEnd) tokens tokens (λ k. (r.1, k)) r.2
pointed_led started (OfOpening operator) name line_shape symbol line tokens r = point_led started (OfOpening operator) name r.0 line_shape symbol line (grammar.symbol LineEnd) tokens tokens (λ k. (r.1, k)) r.2
pointed_led started (OfArgument call input) name line_shape LineEnd line tokens r = (r.0, r.1, r.2, over_led (after_its_point name r.0 then more_arguments r.1) line tokens r.3)
pointed_led started (OfArgument call input) name line_shape symbol line tokens r =
    elim (skip_next_is is_line_end (after_its_point name r.0 then more_arguments r.1) refl r.3) [
      | inl k ↦ absurd (no_field name r.0 (both_empty k.0).0)
      | inr k ↦ point_led started (OfArgument call input) name r.0 line_shape symbol line (more_arguments r.1) _ tokens
          (λ left. (r.1, r.2 ∙ sym (one_argument started call input r.0 r.1), record { prefix = k.prefix; rest = k.rest; whole = k.whole; begins = left; goes_on = k.goes_on })) k.begins
    ]
  where
    no_field : (name : Name) (x : Term) → ¬ (after_its_point name x [])
    no_field name (Constant value) h = h
    no_field name (Address word) h = h
    no_field name (Variable other) h = h
    no_field name (Field instance field) h = h.1

-- after a call's instance
instanced_led : (started : StartedLine) (condition : Condition) (instance : Name) (arguments : List Assignment) (line_shape : LineShape) (symbol : Symbol) (line : ℕ) (tokens : List Mark) (setting : Setting) (colon : Bool)
    → line_shape ≡ Instructs started.label started.line (Call condition instance arguments) → (call_list arguments then grammar.symbol LineEnd) (mark_on symbol line ∷ tokens)
    → Leads (line_move setting (Instanced started condition instance) symbol line colon) line_shape tokens
instanced_led started condition instance arguments line_shape symbol line tokens setting colon e h = by_arguments arguments e h
  where
    listed : (arguments : List Assignment) → line_shape ≡ Instructs started.label started.line (Call condition instance arguments) → (bracketed arguments then grammar.symbol LineEnd) (mark_on symbol line ∷ tokens)
        → Leads (line_move setting (Instanced started condition instance) symbol line colon) line_shape tokens
    listed arguments e h =
        let k = next_is (ungroup h) in
        by_symbol (λ s. line_move setting (Instanced started condition instance) s line colon) symbol OpeningBracket line_shape tokens k.0 (arguments, e, ungroup k.1)

    bare : line_shape ≡ Instructs started.label started.line (Call condition instance []) → grammar.symbol LineEnd (mark_on symbol line ∷ tokens)
        → Leads (line_move setting (Instanced started condition instance) symbol line colon) line_shape tokens
    bare e h = let k = end_is symbol line tokens h in
        by_symbol (λ s. line_move setting (Instanced started condition instance) s line colon) symbol LineEnd line_shape tokens k.0 (e, k.1)

    by_arguments : (arguments : List Assignment) → line_shape ≡ Instructs started.label started.line (Call condition instance arguments) → (call_list arguments then grammar.symbol LineEnd) (mark_on symbol line ∷ tokens)
        → Leads (line_move setting (Instanced started condition instance) symbol line colon) line_shape tokens
    by_arguments [] e h = elim h.begins [
      | inl n ↦
          let k : (empty then grammar.symbol LineEnd) (mark_on symbol line ∷ tokens) = record { prefix = h.prefix; rest = h.rest; whole = h.whole; begins = n; goes_on = h.goes_on } in
          bare e (passed k)
      | inr b ↦
          let k : (bracketed [] then grammar.symbol LineEnd) (mark_on symbol line ∷ tokens) = record { prefix = h.prefix; rest = h.rest; whole = h.whole; begins = b; goes_on = h.goes_on } in
          listed [] e k
    ]
    by_arguments (first ∷ others) e h = listed (first ∷ others) e h

-- after the operator of a step
pub after_step : (label : Option Word) (line : ℕ) (step : Step) (tokens : List Mark) → (operands_of step then grammar.symbol LineEnd) tokens
    → rest_of (after_operator label line (operation_in step)) (Instructs label line step) tokens
after_step label line (Load negated x) tokens k = inl (x, refl, k)
after_step label line (Store storing x) tokens k = inl (x, refl, k)
after_step label line (Apply operator x) tokens k = inl (x, refl, k)
after_step label line Negate tokens k = (refl, passed k)
after_step label line (Jump condition target) tokens k = (target, refl, k)
after_step label line (Call condition instance arguments) tokens k = (instance, arguments, refl, ungroup k)
after_step label line (Return condition) tokens k = (refl, passed k)

-- a step's first token, and what is after it
pub step_parts : (line : ℕ) (step : Step) (symbol : Symbol) (here : ℕ) (tokens : List Mark) → (instruction line step then grammar.symbol LineEnd) (mark_on symbol here ∷ tokens)
    → (operation_of symbol ≡ Some (operation_in step)) × (here ≡ line) × (operands_of step then grammar.symbol LineEnd) tokens
step_parts line step symbol here tokens h = let k = next_is (ungroup h) in (step_begins step (mark_on symbol here) k.0.0, k.0.1, k.1)

-- an opening line's first token, and what is after it
pub opening_parts : (line : ℕ) (operator : Operator) (x : Option Term) (symbol : Symbol) (here : ℕ) (tokens : List Mark) → opening line operator x (mark_on symbol here ∷ tokens)
    → (operation_of symbol ≡ Some (Operates (Applies operator))) × (here ≡ line) × (grammar.symbol OpeningBracket then optional operand x then grammar.symbol LineEnd) tokens
opening_parts line operator x symbol here tokens h = let k = next_is (ungroup h) in (operator_is operator (mark_on symbol here) k.0.0, k.0.1, k.1)

-- after a label an operator is taken
pub labelled_operator : (label : Word) (symbol : Symbol) (line : ℕ) (operation : Operation) → operation_of symbol ≡ Some operation → at_labelled label symbol line ≡ Some (after_operator (Some label) line operation)
labelled_operator label LineEnd line operation e = absurd (cc)
labelled_operator label symbol line operation e = ap (λ o. at_operator (Some label) line o) e

labelled_led : (label : Word) (line_shape : LineShape) (symbol : Symbol) (line : ℕ) (tokens : List Mark) → labelled_rest label line_shape (mark_on symbol line ∷ tokens) → Leads (at_labelled label symbol line) line_shape tokens
labelled_led label (LabelAlone other) symbol line tokens h =
    let k = end_is symbol line tokens h.1 in
    by_symbol (λ s. at_labelled label s line) symbol LineEnd (LabelAlone other) tokens k.0 (ap LabelAlone h.0, k.1)
labelled_led label (Instructs other at step) symbol line tokens h =
    let k = step_parts at step symbol line tokens h.1 in
    subst (λ o. Leads o (Instructs other at step) tokens) (sym (labelled_operator label symbol line (operation_in step) k.0))
    (subst (λ l. rest_of (after_operator (Some label) line (operation_in step)) (Instructs l at step) tokens) (sym h.0)
    (subst (λ n. rest_of (after_operator (Some label) line (operation_in step)) (Instructs (Some label) n step) tokens) k.1 (after_step (Some label) line step tokens k.2)))
labelled_led label (Opens other at operator x) symbol line tokens h =
    let k = opening_parts at operator x symbol line tokens h.1 in
    subst (λ o. Leads o (Opens other at operator x) tokens) (sym (labelled_operator label symbol line (Operates (Applies operator)) k.0))
    (inr (operator, x, refl, (λ i. Opens (h.0 i) (sym k.1 i) operator x), k.2))

-- after an operator that takes an operand
operated_led : (started : StartedLine) (operating : OperandOperator) (line_shape : LineShape) (symbol : Symbol) (line : ℕ) (tokens : List Mark) → rest_of (Operated started operating) line_shape (mark_on symbol line ∷ tokens)
    → Leads (at_operated started operating symbol line) line_shape tokens
operated_led started operating line_shape symbol line tokens (inl r) = subst (λ o. Leads o line_shape tokens) (sym (no_bracket operating symbol (first_is started operating line_shape symbol line tokens r))) (step_operand_led started operating line_shape symbol line tokens r)
  where
    no_bracket : (operating : OperandOperator) (symbol : Symbol) → symbol ≢ OpeningBracket → at_operated started operating symbol line ≡ at_operand started (OfStep operating) symbol line
    no_bracket operating OpeningBracket n = absurd (n refl)
    no_bracket (Loads negated) symbol n = refl
    no_bracket (Stores storing) symbol n = refl
    no_bracket (Applies operator) symbol n = refl

    first_is : (started : StartedLine) (operating : OperandOperator) (line_shape : LineShape) (symbol : Symbol) (line : ℕ) (tokens : List Mark) → operand_rest started (OfStep operating) operand line_shape (mark_on symbol line ∷ tokens) → symbol ≢ OpeningBracket
    first_is started operating line_shape symbol line tokens r e =
        let l = step_operand_led started operating line_shape symbol line tokens r in
        subst (λ s. Leads (at_operand started (OfStep operating) s line) line_shape tokens) e l
operated_led started operating line_shape symbol line tokens (inr r) =
    let k = next_is r.4 in
    subst (λ o. Leads (at_operated started o symbol line) line_shape tokens) (sym r.2)
    (by_symbol (λ s. at_operated started (Applies r.0) s line) symbol OpeningBracket line_shape tokens k.0 (r.1, r.3, k.1))

-- after an operator's bracket
bracketed_led : (started : StartedLine) (operator : Operator) (x : Option Term) (line_shape : LineShape) (symbol : Symbol) (line : ℕ) (tokens : List Mark) → line_shape ≡ Opens started.label started.line operator x
    → (optional operand x then grammar.symbol LineEnd) (mark_on symbol line ∷ tokens) → Leads (at_bracketed started operator symbol line) line_shape tokens
bracketed_led started operator None line_shape symbol line tokens e h =
    let k = end_is symbol line tokens (passed h) in
    by_symbol (λ s. at_bracketed started operator s line) symbol LineEnd line_shape tokens k.0 (e, k.1)
bracketed_led started operator (Some x) line_shape symbol line tokens e h =
    subst (λ o. Leads o line_shape tokens) (sym (no_line_end symbol l)) l
  where
    l : Leads (at_operand started (OfOpening operator) symbol line) line_shape tokens
    l = opening_operand_led started operator x line_shape symbol line tokens e h

    no_line_end : (symbol : Symbol) → Leads (at_operand started (OfOpening operator) symbol line) line_shape tokens → at_bracketed started operator symbol line ≡ at_operand started (OfOpening operator) symbol line
    no_line_end LineEnd l = absurd l
    no_line_end symbol l = refl

-- each token of what completes a line that has started is taken
pub move_led : (setting : Setting) (state : LineState) (line_shape : LineShape) (symbol : Symbol) (line : ℕ) (colon : Bool) (tokens : List Mark) → rest_of state line_shape (mark_on symbol line ∷ tokens)
    → Leads (line_move setting state symbol line colon) line_shape tokens
move_led setting Start line_shape symbol line colon tokens r = absurd r
move_led setting (Worded label) line_shape symbol line colon tokens r =
    let k = next_is r in by_symbol (λ s. line_move setting (Worded label) s line colon) symbol Colon line_shape tokens k.0 k.1
move_led setting (Labelled label) line_shape symbol line colon tokens r = labelled_led label line_shape symbol line tokens r
move_led setting (Operated started operating) line_shape symbol line colon tokens r = operated_led started operating line_shape symbol line tokens r
move_led setting (Jumped started condition) line_shape symbol line colon tokens r =
    let k = next_is r.2 in
    named symbol r.0 k.0 (λ bytes s n. by_symbol (λ s. line_move setting (Jumped started condition) s line colon) symbol (Identifier bytes) line_shape tokens s
    (r.1 ∙ ap (λ n. Instructs started.label started.line (Jump condition n)) (sym n), k.1))
move_led setting (Called started condition) line_shape symbol line colon tokens r =
    let k = next_is r.3 in
    named symbol r.0 k.0 (λ bytes s n. by_symbol (λ s. line_move setting (Called started condition) s line colon) symbol (Identifier bytes) line_shape tokens s
    (r.1, r.2 ∙ ap (λ n. Instructs started.label started.line (Call condition n r.1)) (sym n), k.1))
move_led setting (Instanced started condition instance) line_shape symbol line colon tokens r = instanced_led started condition instance r.0 line_shape symbol line tokens setting colon r.1 r.2
move_led setting (Listing started call item) line_shape symbol line colon tokens r = list_led started call item line_shape symbol line tokens r
move_led setting (Bracketed started operator) line_shape symbol line colon tokens r = bracketed_led started operator r.0 line_shape symbol line tokens r.1 r.2
move_led setting (Named started place name) line_shape symbol line colon tokens r = named_led started place name line_shape symbol line tokens setting colon r
move_led setting (Pointed started place name) line_shape symbol line colon tokens r = pointed_led started place name line_shape symbol line tokens r
move_led setting (Stepped started step) line_shape symbol line colon tokens r =
    let k = end_is symbol line tokens r.1 in by_symbol (λ s. line_move setting (Stepped started step) s line colon) symbol LineEnd line_shape tokens k.0 (r.0, k.1)
move_led setting (BracketedWith started operator x) line_shape symbol line colon tokens r =
    let k = end_is symbol line tokens r.1 in by_symbol (λ s. line_move setting (BracketedWith started operator x) s line colon) symbol LineEnd line_shape tokens k.0 (r.0, k.1)
move_led setting (Ended ended) line_shape symbol line colon tokens r = let e = r.1 in absurd (cc)
