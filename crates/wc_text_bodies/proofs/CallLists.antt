-- Where the walk comes by the tokens of a call's list.
use Rattle.wc_model.proofs.Common.{◌≡◌, ◌≤◌, ℕ, Bool, false, List, [], ◌∷◌, Option, Some, None, refl, sym, subst, ◌∙◌, drop, length, get_or, arith, drop-drop}
use Rattle.std.specs.Prelude.{◌+◌}
use Rattle.wc_laws_grammar.specs.{Formal, formal_of, after_operator, StartedLine, OpenCall, OfArgument, AtNext, Listing, Instructs, name_or_literal, with_argument, AtLine, OnLine, after_line, on_line, found, truths}
use Rattle.wc_laws_grammar.specs.Words as words
use Rattle.wc_lexer.specs.Views.{shape_view, token_view}
use Rattle.wc_lexer.specs.declared.shape.Shape.TheVariants as Shape
use Rattle.wc_lexer.specs.declared.shape.Token.{Token}
use Rattle.wc_model.specs.Definitions.{Name, name_of, Assignment, Call, Term, sign_of, Mark, Identifier, OpeningBracket, ClosingBracket, LineEnd, Position, mark_of_token, symbol_of}
use Rattle.wc_model.specs.declared.operator.Condition.{Condition}
use Rattle.wc_model.specs.declared.operator.Direction.{Direction}
use Rattle.wc_model.specs.declared.operator.Direction.TheVariants.{Into, OutOf}
use Rattle.wc_text_bodies.proofs.ShortLines.{one_on}
use Rattle.wc_text_bodies.specs.Views.{walk}
use Rattle.wc_text_bodies.specs.Several.{Begins, BeginsCall, GoesOn, IsArgument, ListEnds, ListsOn, name_or_truth}
use Rattle.wc_text_lines.specs.Words.{marks_of}

-- an input or output and its sign, an operand, and what follows it
abbrev argument_marks : Direction → List ℕ → (line sign : ℕ) → Mark → List Mark → List Mark
argument_marks way bytes line sign operand rest = record { symbol = Identifier bytes; line = line } ∷ record { symbol = sign_of way; line = sign } ∷ operand ∷ rest

-- the formal parameter of this name
abbrev named_formal : Direction → List ℕ → Formal
named_formal way bytes = record { direction = way; name = name_of bytes }

-- the list's end and the line's, and what follows them
abbrev and_ends : (close end : ℕ) → List Mark → List Mark
and_ends close end following = record { symbol = ClosingBracket; line = close } ∷ record { symbol = LineEnd; line = end } ∷ following

-- where an identifier leads that is an argument's value
named : (way : Direction) (p : Position) (started : StartedLine) (call : OpenCall) (bytes value : List ℕ) (line assign at last : ℕ) (next : Mark) (following : List Mark)
    → walk (OnLine p (Listing started call AtNext)) (argument_marks way bytes line assign (record { symbol = Identifier value; line = at }) (next ∷ following)) last
    ≡ walk (on_line p (name_or_literal started (OfArgument call (named_formal way bytes)) (name_of value) (found truths (name_of value)))) (next ∷ following) last
named Into p started call bytes value line assign at last next following = refl
named OutOf p started call bytes value line assign at last next following = refl

-- the list's end after a name, or after TRUE or FALSE
name_ends : (p : Position) (started : StartedLine) (call : OpenCall) (input : Formal) (name : Name) (truth : Option Bool) (close end last : ℕ) (following : List Mark)
    → walk (on_line p (name_or_literal started (OfArgument call input) name truth)) (and_ends close end following) last
    ≡ walk (AtLine (after_line p (Instructs started.label started.line (Call call.condition call.instance (with_argument call input (name_or_truth name truth)).arguments)))) following last
name_ends p started call input name None close end last following = refl
name_ends p started call input name (Some value) close end last following = refl

-- where an argument, the list's end and the line's lead
abbrev EndsAs : Direction → OpenCall → List ℕ → (line assign : ℕ) → Mark → (close end : ℕ) → List Mark → Option Term → Type 0
EndsAs way call bytes line assign operand close end following None = Unit {0}
EndsAs way call bytes line assign operand close end following (Some term) =
    ListEnds call (argument_marks way bytes line assign operand (and_ends close end following)) (with_argument call (named_formal way bytes) term) following

-- an argument and a comma at the start of the tokens that are left
pub takes_argument : (call more : OpenCall) (tokens : List Token) (other : Token) (argument : Assignment) → 4 ≤ length tokens → (get_or tokens 3 other).shape ≡ Shape.Comma
    → IsArgument (mark_of_token (token_view (get_or tokens 0 other))) (mark_of_token (token_view (get_or tokens 1 other))) (mark_of_token (token_view (get_or tokens 2 other))) argument
    → more ≡ with_argument call (formal_of argument) argument.actual → ListsOn call (marks_of tokens) more (marks_of (drop 4 tokens))
takes_argument call more [] other argument le comma is m = absurd (omega (arith, le))
takes_argument call more (input ∷ []) other argument le comma is m = absurd (omega (arith, le))
takes_argument call more (input ∷ assign ∷ []) other argument le comma is m = absurd (omega (arith, le))
takes_argument call more (input ∷ assign ∷ operand ∷ []) other argument le comma is m = absurd (omega (arith, le))
takes_argument call more (input ∷ assign ∷ operand ∷ next ∷ following) other argument le comma is m =
    rw m (subst (λ s. ListsOn call (mark_of_token (token_view input) ∷ mark_of_token (token_view assign) ∷ mark_of_token (token_view operand)
    ∷ record { symbol = symbol_of (shape_view s) next.text.now; line = next.line } ∷ marks_of following) (with_argument call (formal_of argument) argument.actual) (marks_of following))
    (sym comma) (is.goes_on call next.line (marks_of following)))

-- the last argument at the start of the tokens that are left
pub takes_last : (call all : OpenCall) (tokens : List Token) (other : Token) (argument : Assignment) → 5 ≤ length tokens → (get_or tokens 3 other).shape ≡ Shape.Closing
    → (get_or tokens 4 other).shape ≡ Shape.LineEnd
    → IsArgument (mark_of_token (token_view (get_or tokens 0 other))) (mark_of_token (token_view (get_or tokens 1 other))) (mark_of_token (token_view (get_or tokens 2 other))) argument
    → all ≡ with_argument call (formal_of argument) argument.actual → ListEnds call (marks_of tokens) all (marks_of (drop 5 tokens))
takes_last call all [] other argument le close ended is m = absurd (omega (arith, le))
takes_last call all (input ∷ []) other argument le close ended is m = absurd (omega (arith, le))
takes_last call all (input ∷ assign ∷ []) other argument le close ended is m = absurd (omega (arith, le))
takes_last call all (input ∷ assign ∷ operand ∷ []) other argument le close ended is m = absurd (omega (arith, le))
takes_last call all (input ∷ assign ∷ operand ∷ closing ∷ []) other argument le close ended is m = absurd (omega (arith, le))
takes_last call all (input ∷ assign ∷ operand ∷ closing ∷ end ∷ following) other argument le close ended is m =
    let prefix : List Mark → List Mark = λ rest. mark_of_token (token_view input) ∷ mark_of_token (token_view assign) ∷ mark_of_token (token_view operand) ∷ rest in
    rw m (subst (λ s. ListEnds call (prefix (record { symbol = symbol_of (shape_view s) closing.text.now; line = closing.line } ∷ mark_of_token (token_view end) ∷ marks_of following))
    (with_argument call (formal_of argument) argument.actual) (marks_of following)) (sym close)
    (subst (λ s. ListEnds call (prefix (record { symbol = ClosingBracket; line = closing.line } ∷ record { symbol = symbol_of (shape_view s) end.text.now; line = end.line } ∷ marks_of following))
    (with_argument call (formal_of argument) argument.actual) (marks_of following)) (sym ended)
    (is.ends call closing.line end.line (marks_of following))))

-- some arguments, and then others
pub lists_then : (call more all : OpenCall) (xs ys zs : List Mark) → ListsOn call xs more ys → ListsOn more ys all zs → ListsOn call xs all zs
lists_then call more all xs ys zs g h = record { same = λ p started. record { same = λ last. (g.same p started).same last ∙ (h.same p started).same last } }

-- some arguments, and then those after them, in one list of tokens
pub arguments_then : (call more all : OpenCall) (tokens following : List Token) (n m : ℕ) → following ≡ drop n tokens → ListsOn call (marks_of tokens) more (marks_of (drop n tokens))
    → ListsOn more (marks_of following) all (marks_of (drop m following)) → ListsOn call (marks_of tokens) all (marks_of (drop (n + m) tokens))
arguments_then call more all tokens following n m e g h =
    subst (λ xs. ListsOn call (marks_of tokens) all (marks_of xs)) (drop-drop m n tokens)
    (lists_then call more all (marks_of tokens) (marks_of (drop n tokens)) (marks_of (drop m (drop n tokens))) g (subst (λ xs. ListsOn more (marks_of xs) all (marks_of (drop m xs))) e h))

-- arguments and then the last one, in one list of tokens
pub ends_then : (call more all : OpenCall) (tokens following : List Token) (n m : ℕ) → following ≡ drop n tokens → ListsOn call (marks_of tokens) more (marks_of (drop n tokens))
    → ListEnds more (marks_of following) all (marks_of (drop m following)) → ListEnds call (marks_of tokens) all (marks_of (drop (n + m) tokens))
ends_then call more all tokens following n m e g h =
    let on : ListEnds more (marks_of (drop n tokens)) all (marks_of (drop m (drop n tokens))) = subst (λ xs. ListEnds more (marks_of xs) all (marks_of (drop m xs))) e h in
    subst (λ xs. ListEnds call (marks_of tokens) all (marks_of xs)) (drop-drop m n tokens)
    (record { same = λ p started. record { same = λ last. (g.same p started).same last ∙ (on.same p started).same last } })

-- a call's operator, its instance, the bracket and the first input
begins_call : (p : Position) (bytes instance input : List ℕ) (line at opening first : ℕ) (condition : Condition) → Begins p bytes (words.Calls condition)
    → BeginsCall p (record { symbol = Identifier bytes; line = line }) (record { symbol = Identifier instance; line = at }) (record { symbol = OpeningBracket; line = opening })
    (record { symbol = Identifier input; line = first }) (record { condition = condition; instance = name_of instance; arguments = [] })
begins_call p bytes instance input line at opening first condition b = record {
  same = λ following. record {
    same = λ last.
        (one_on (AtLine p) (on_line p (after_operator None line (words.Calls condition))) (record { symbol = Identifier bytes; line = line })
        (record { symbol = Identifier instance; line = at } ∷ record { symbol = OpeningBracket; line = opening } ∷ record { symbol = Identifier input; line = first } ∷ following)
        false refl (b.passes line) (b.leads line)).same
        last
        ∙ refl;
  };
}

-- four tokens with which a call's list begins
pub begins_call_of : (p : Position) (operator instance opening input : Token) (condition : Condition) → operator.shape ≡ Shape.Identifier → instance.shape ≡ Shape.Identifier
    → opening.shape ≡ Shape.Opening → input.shape ≡ Shape.Identifier → Begins p operator.text.now (words.Calls condition)
    → BeginsCall p (mark_of_token (token_view operator)) (mark_of_token (token_view instance)) (mark_of_token (token_view opening)) (mark_of_token (token_view input))
    (record { condition = condition; instance = name_of instance.text.now; arguments = [] })
begins_call_of p operator instance opening input condition a b c d begins =
    let call : OpenCall = record { condition = condition; instance = name_of instance.text.now; arguments = [] } in
    subst (λ s. BeginsCall p (record { symbol = symbol_of (shape_view s) operator.text.now; line = operator.line }) (mark_of_token (token_view instance)) (mark_of_token (token_view opening)) (mark_of_token (token_view input)) call) (sym a)
    (subst (λ s. BeginsCall p (record { symbol = Identifier operator.text.now; line = operator.line }) (record { symbol = symbol_of (shape_view s) instance.text.now; line = instance.line }) (mark_of_token (token_view opening)) (mark_of_token (token_view input)) call) (sym b)
    (subst (λ s. BeginsCall p (record { symbol = Identifier operator.text.now; line = operator.line }) (record { symbol = Identifier instance.text.now; line = instance.line }) (record { symbol = symbol_of (shape_view s) opening.text.now; line = opening.line }) (mark_of_token (token_view input)) call) (sym c)
    (subst (λ s. BeginsCall p (record { symbol = Identifier operator.text.now; line = operator.line }) (record { symbol = Identifier instance.text.now; line = instance.line }) (record { symbol = OpeningBracket; line = opening.line }) (record { symbol = symbol_of (shape_view s) input.text.now; line = input.line }) call) (sym d)
    (begins_call p operator.text.now instance.text.now input.text.now operator.line instance.line opening.line input.line condition begins))))

-- a call with its list at the start of the tokens that are left
pub takes_call : (p next : Position) (tokens list : List Token) (other : Token) (call all : OpenCall) (n : ℕ) → 4 ≤ length tokens → list ≡ drop 3 tokens
    → BeginsCall p (mark_of_token (token_view (get_or tokens 0 other))) (mark_of_token (token_view (get_or tokens 1 other))) (mark_of_token (token_view (get_or tokens 2 other))) (mark_of_token (token_view (get_or tokens 3 other))) call
    → ListEnds call (marks_of list) all (marks_of (drop n list))
    → next ≡ after_line p (Instructs None (get_or tokens 0 other).line (Call all.condition all.instance all.arguments))
    → GoesOn (AtLine p) (marks_of tokens) (AtLine next) (marks_of (drop (3 + n) tokens))
takes_call p next [] list other call all n le e b h m = absurd (omega (arith, le))
takes_call p next (operator ∷ []) list other call all n le e b h m = absurd (omega (arith, le))
takes_call p next (operator ∷ instance ∷ []) list other call all n le e b h m = absurd (omega (arith, le))
takes_call p next (operator ∷ instance ∷ opening ∷ []) list other call all n le e b h m = absurd (omega (arith, le))
takes_call p next (operator ∷ instance ∷ opening ∷ input ∷ following) list other call all n le e b h m =
    let tokens = operator ∷ instance ∷ opening ∷ input ∷ following in
    let on : ListEnds call (marks_of (drop 3 tokens)) all (marks_of (drop n (drop 3 tokens))) = subst (λ xs. ListEnds call (marks_of xs) all (marks_of (drop n xs))) e h in
    rw m (subst (λ xs. GoesOn (AtLine p) (marks_of tokens) (AtLine (after_line p (Instructs None operator.line (Call all.condition all.instance all.arguments)))) (marks_of xs)) (drop-drop n 3 tokens)
    (record { same = λ last. (b.same (marks_of following)).same last ∙ (on.same p (record { label = None; line = operator.line })).same last }))
