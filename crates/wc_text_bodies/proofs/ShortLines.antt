-- Where the walk comes by the tokens of a short line.
use Rattle.std.proofs.Common.{◌≡◌, ℕ, Bool, false, true, List, [], ◌∷◌, Option, Some, None, refl, sym, ap, subst, ◌∙◌, is_some, not, option_map, IfSome, ◌≤◌, drop, length, get_or, arith}
use Rattle.wc_model.proofs.Common.{eqb-true, drop-drop}
use Rattle.std.specs.Prelude.{◌&&◌, ◌+◌, ◌==◌}
use Rattle.wc_laws_grammar.specs.LineMoves as lines
use Rattle.wc_laws_grammar.specs.Moves as moves
use Rattle.wc_laws_grammar.specs.{State, colon_next, fault_at, move, fault_at_line, start_move, section_of_word, is_full, fault_if, on_line, after_line, Operation, OperandOperator, Loads, Stores, Applies, found, operations, truths, step_of}
use Rattle.wc_laws_grammar.specs.Words as words
use Rattle.wc_model.specs.Definitions.{same_name, Name, name_of, Term, end_word, Position, TooMany, mark_of_token, symbol_of}
use Rattle.wc_model.specs.Language.Tree as tree
use Rattle.wc_model.specs.Text.Marks.{Mark, Symbol, Identifier, Whole, Duration, Truth, Direct, Colon, LineEnd}
use Rattle.wc_lexer.specs.Views.{shape_view, token_view}
use Rattle.wc_lexer.specs.declared.shape.Shape.TheVariants as Shape
use Rattle.wc_lexer.specs.declared.shape.Token.{Token}
use Rattle.wc_text_bodies.proofs.WalkSteps.{at_move}
use Rattle.wc_text_bodies.specs.Views.{walk, fault_of, openings_view}
use Rattle.wc_text_bodies.specs.Several.{Begins, GoesOn, IsLine, Makes, name_or_truth, operand_of}
use Rattle.wc_text_bodies.specs.declared.bodies.Opening.{Opening}
use Rattle.wc_text_lines.specs.Words.{marks_of, operation_view, symbol_view}
use Rattle.wc_text_lines.specs.declared.operators.Operation.{Operation as CodeOperation}

-- no parenthesis is open
pub none_open : (xs : List Opening) (n : ℕ) → n ≡ length xs → (n == 0) ≡ true → openings_view [] xs ≡ []
none_open [] n same e = refl
none_open (x ∷ xs) n same e = let zero_of : n ≡ 0 = eqb-true n 0 e in absurd (omega (arith, same))

-- after one token
pub one_on : (state next : State) (mark : Mark) (following : List Mark) (colon : Bool) → colon_next following false ≡ colon → fault_at state mark.symbol mark.line colon ≡ None
    → move state mark.symbol mark.line colon ≡ Some next → GoesOn state (mark ∷ following) next following
one_on state next mark following colon c e m = record { same = λ last. at_move state next mark following last colon c (ap (option_map fault_of) (sym e)) (sym m) }

-- where an operand and the line's end lead
abbrev EndsAs : Position → lines.StartedLine → OperandOperator → Symbol → ℕ → ℕ → List Mark → Option Term → Type 0
EndsAs p started operating symbol line end following None = Unit {0}
EndsAs p started operating symbol line end following (Some term) =
    GoesOn (moves.OnLine p (lines.Operated started operating)) (record { symbol = symbol; line = line } ∷ record { symbol = LineEnd; line = end } ∷ following)
    (moves.AtLine (after_line p (lines.Instructs started.label started.line (step_of operating term)))) following

-- where an identifier leads that is an operand
named : (p : Position) (started : lines.StartedLine) (operating : OperandOperator) (bytes : List ℕ) (line end last : ℕ) (following : List Mark)
    → walk (moves.OnLine p (lines.Operated started operating)) (record { symbol = Identifier bytes; line = line } ∷ record { symbol = LineEnd; line = end } ∷ following) last
    ≡ walk (on_line p (lines.name_or_literal started (lines.OfStep operating) (name_of bytes) (found truths (name_of bytes)))) (record { symbol = LineEnd; line = end } ∷ following) last
named p started (Loads negated) bytes line end last following = refl
named p started (Stores storing) bytes line end last following = refl
named p started (Applies operator) bytes line end last following = refl

-- the line's end after a name, or after TRUE or FALSE
name_ends : (p : Position) (started : lines.StartedLine) (operating : OperandOperator) (name : Name) (truth : Option Bool) (end last : ℕ) (following : List Mark)
    → walk (on_line p (lines.name_or_literal started (lines.OfStep operating) name truth)) (record { symbol = LineEnd; line = end } ∷ following) last
    ≡ walk (moves.AtLine (after_line p (lines.Instructs started.label started.line (step_of operating (name_or_truth name truth))))) following last
name_ends p started operating name None end last following = refl
name_ends p started operating name (Some value) end last following = refl

-- an identifier as an operand
named_operand : (p : Position) (started : lines.StartedLine) (operating : OperandOperator) (bytes : List ℕ) (line end : ℕ) (following : List Mark)
    → EndsAs p started operating (Identifier bytes) line end following (operand_of (Identifier bytes) line)
named_operand p started operating bytes line end following = record {
  same = λ last. named p started operating bytes line end last following ∙ name_ends p started operating (name_of bytes) (found truths (name_of bytes)) end last following;
}

-- any symbol as an operand
any_operand : (p : Position) (started : lines.StartedLine) (operating : OperandOperator) (symbol : Symbol) (line end : ℕ) (following : List Mark)
    → EndsAs p started operating symbol line end following (operand_of symbol line)
any_operand p started operating (Identifier bytes) line end following = named_operand p started operating bytes line end following
any_operand p started (Loads negated) (Direct bytes) line end following = record { same = λ last. refl }
any_operand p started (Stores storing) (Direct bytes) line end following = record { same = λ last. refl }
any_operand p started (Applies operator) (Direct bytes) line end following = record { same = λ last. refl }
any_operand p started (Loads negated) (Whole number) line end following = record { same = λ last. refl }
any_operand p started (Stores storing) (Whole number) line end following = record { same = λ last. refl }
any_operand p started (Applies operator) (Whole number) line end following = record { same = λ last. refl }
any_operand p started (Loads negated) (Duration number) line end following = record { same = λ last. refl }
any_operand p started (Stores storing) (Duration number) line end following = record { same = λ last. refl }
any_operand p started (Applies operator) (Duration number) line end following = record { same = λ last. refl }
any_operand p started (Loads negated) (Truth value) line end following = record { same = λ last. refl }
any_operand p started (Stores storing) (Truth value) line end following = record { same = λ last. refl }
any_operand p started (Applies operator) (Truth value) line end following = record { same = λ last. refl }
any_operand p started operating symbol line end following = tt

-- an operand and the line's end
pub operand_ends : (p : Position) (started : lines.StartedLine) (operating : OperandOperator) (symbol : Symbol) (line end : ℕ) (following : List Mark) (term : Term) → operand_of symbol line ≡ Some term
    → GoesOn (moves.OnLine p (lines.Operated started operating)) (record { symbol = symbol; line = line } ∷ record { symbol = LineEnd; line = end } ∷ following)
    (moves.AtLine (after_line p (lines.Instructs started.label started.line (step_of operating term)))) following
operand_ends p started operating symbol line end following term e = subst (EndsAs p started operating symbol line end following) e (any_operand p started operating symbol line end following)

-- an operand is not a colon
no_colon_in : (symbol : Symbol) (line : ℕ) (term : Term) → operand_of symbol line ≡ Some term → moves.is_colon symbol ≡ false
no_colon_in Colon line term e = cc
no_colon_in _ line term e = refl

pub operand_is_no_colon : (symbol : Symbol) (line : ℕ) (term : Term) → operand_of symbol line ≡ Some term → moves.is_colon symbol ≡ false
operand_is_no_colon = no_colon_in

-- no line is too many if there is space
not_full : (p : Position) (colon : Bool) (line : ℕ) (o : Option Operation) → is_full p ≡ false → fault_if (is_some o && not colon && is_full p) TooMany line ≡ None
not_full p true line None full = refl
not_full p false line None full = refl
not_full p true line (Some operation) full = refl
not_full p false line (Some operation) full = rw full refl

-- nothing is wrong with a word at the start of a line if there is space
pub word_passes : (p : Position) (bytes : List ℕ) (line : ℕ) → p.openings ≡ [] → is_full p ≡ false → fault_at (moves.AtLine p) (Identifier bytes) line false ≡ None
word_passes p bytes line opened full =
    subst (λ os. fault_at_line p os (Identifier bytes) line false ≡ None) (sym opened) (not_full p false line (found operations (name_of bytes)) full)

-- an operator leads on its line
pub operator_leads : (p : Position) (bytes : List ℕ) (line : ℕ) (operation : Operation) → p.openings ≡ [] → same_name (name_of bytes) (end_word p.unit.kind) ≡ false
    → section_of_word p.done (name_of bytes) ≡ None → found operations (name_of bytes) ≡ Some operation
    → move (moves.AtLine p) (Identifier bytes) line false ≡ Some (on_line p (lines.after_operator None line operation))
operator_leads p bytes line operation opened unended unsectioned named =
    subst (λ os. start_move p os (Identifier bytes) line false ≡ Some (on_line p (lines.after_operator None line operation))) (sym opened)
    (rw (unended, unsectioned, named) refl)

-- one after the other
pub and_on : (a b c : State) (xs ys zs : List Mark) → GoesOn a xs b ys → GoesOn b ys c zs → GoesOn a xs c zs
and_on a b c xs ys zs g h = record { same = λ last. g.same last ∙ h.same last }

-- some tokens, and then some of those after them
pub then_on : (a b c : State) (tokens following : List Token) (n m : ℕ) → following ≡ drop n tokens → GoesOn a (marks_of tokens) b (marks_of (drop n tokens))
    → GoesOn b (marks_of following) c (marks_of (drop m following)) → GoesOn a (marks_of tokens) c (marks_of (drop (n + m) tokens))
then_on a b c tokens following n m e g h =
    subst (λ xs. GoesOn a (marks_of tokens) c (marks_of xs)) (drop-drop m n tokens)
    (and_on a b c (marks_of tokens) (marks_of (drop n tokens)) (marks_of (drop m (drop n tokens))) g (subst (λ xs. GoesOn b (marks_of xs) c (marks_of (drop m xs))) e h))

-- an operator with its operand
pub makes_operated : (operating : OperandOperator) (mark : Mark) (term : Term) → operand_of mark.symbol mark.line ≡ Some term → Makes (words.Operates operating) mark (step_of operating term)
makes_operated operating mark term e = record {
  no_colon = operand_is_no_colon mark.symbol mark.line term e;
  ends = λ p line end following. operand_ends p (record { label = None; line = line }) operating mark.symbol mark.line end following term e;
}

-- a word that is an operator at the start of a line
pub begins_line : (p : Position) (bytes : List ℕ) (operation : Operation) → p.openings ≡ [] → is_full p ≡ false → same_name (name_of bytes) (end_word p.unit.kind) ≡ false
    → section_of_word p.done (name_of bytes) ≡ None → Some operation ≡ found operations (name_of bytes) → Begins p bytes operation
begins_line p bytes operation opened full unended unsectioned named = record {
  passes = λ line. word_passes p bytes line opened full;
  leads = λ line. operator_leads p bytes line operation opened unended unsectioned (sym named);
}

-- an operator at the start of a line, and what makes it an instruction
pub is_line : (p : Position) (bytes : List ℕ) (line : ℕ) (second : Mark) (operation : Operation) (step : tree.Step) → Begins p bytes operation → Makes operation second step
    → IsLine p (record { symbol = Identifier bytes; line = line }) second step
is_line p bytes line second operation step b m = record {
  ends = λ end following.
      let first : Mark = record { symbol = Identifier bytes; line = line } in
      let rest = second ∷ record { symbol = LineEnd; line = end } ∷ following in
      let colon : colon_next rest false ≡ false = m.no_colon in
      and_on (moves.AtLine p) (on_line p (lines.after_operator None line operation)) (moves.AtLine (after_line p (lines.Instructs None line step))) (first ∷ rest) rest following
      (one_on (moves.AtLine p) (on_line p (lines.after_operator None line operation)) first rest false colon (b.passes line) (b.leads line))
      (m.ends p line end following);
}

-- an identifier at the start of a line, if it is an operator
pub is_line_of : (p : Position) (first : Token) (second : Mark) (operation : Operation) (step : tree.Step) → first.shape ≡ Shape.Identifier → Begins p first.text.now operation
    → Makes operation second step → IsLine p (mark_of_token (token_view first)) second step
is_line_of p first second operation step e b m =
    subst (λ s. IsLine p (record { symbol = symbol_of (shape_view s) first.text.now; line = first.line }) second step) (sym e) (is_line p first.text.now first.line second operation step b m)

-- the operator that the code has found, in the words' table
pub if_found : (P : Operation → Type 0) (o : Option CodeOperation) (f : Option Operation) → option_map operation_view o ≡ f → ((operation : Operation) → Some operation ≡ f → P operation)
    → IfSome o (λ it. P (operation_view it))
if_found P (Some it) f e h = h (operation_view it) e
if_found P None f e h = tt

-- a line of two tokens
three_taken : (p next : Position) (first second third : Token) (following : List Token) (step : tree.Step) → third.shape ≡ Shape.LineEnd
    → IsLine p (mark_of_token (token_view first)) (mark_of_token (token_view second)) step → next ≡ after_line p (lines.Instructs None first.line step)
    → GoesOn (moves.AtLine p) (marks_of (first ∷ second ∷ third ∷ following)) (moves.AtLine next) (marks_of following)
three_taken p next first second third following step end h n =
    rw n (subst (λ s. GoesOn (moves.AtLine p) (mark_of_token (token_view first) ∷ mark_of_token (token_view second) ∷ record { symbol = symbol_of (shape_view s) third.text.now; line = third.line } ∷ marks_of following)
    (moves.AtLine (after_line p (lines.Instructs None first.line step))) (marks_of following)) (sym end) (h.ends third.line (marks_of following)))

-- a line of two tokens at the start of those that are left
pub takes_step : (p next : Position) (tokens : List Token) (other : Token) (step : tree.Step) → 3 ≤ length tokens → (get_or tokens 2 other).shape ≡ Shape.LineEnd
    → IsLine p (mark_of_token (token_view (get_or tokens 0 other))) (mark_of_token (token_view (get_or tokens 1 other))) step
    → next ≡ after_line p (lines.Instructs None (get_or tokens 0 other).line step)
    → GoesOn (moves.AtLine p) (marks_of tokens) (moves.AtLine next) (marks_of (drop 3 tokens))
takes_step p next [] other step le end h n = absurd (omega (arith, le))
takes_step p next (first ∷ []) other step le end h n = absurd (omega (arith, le))
takes_step p next (first ∷ second ∷ []) other step le end h n = absurd (omega (arith, le))
takes_step p next (first ∷ second ∷ third ∷ following) other step le end h n = three_taken p next first second third following step end h n

-- a label is not a line too many
unasked : (p : Position) (line : ℕ) (o : Option Operation) → fault_if (is_some o && not true && is_full p) TooMany line ≡ None
unasked p line None = refl
unasked p line (Some operation) = refl

-- a label alone on its line
label_on : (p : Position) (bytes : List ℕ) (line colon end : ℕ) (following : List Mark) → p.openings ≡ []
    → GoesOn (moves.AtLine p) (record { symbol = Identifier bytes; line = line } ∷ record { symbol = Colon; line = colon } ∷ record { symbol = LineEnd; line = end } ∷ following)
    (moves.AtLine (after_line p (lines.LabelAlone (record { line = line; name = name_of bytes })))) following
label_on p bytes line colon end following opened =
    let word : tree.Word = record { line = line; name = name_of bytes } in
    let passes : fault_at (moves.AtLine p) (Identifier bytes) line true ≡ None =
    subst (λ os. fault_at_line p os (Identifier bytes) line true ≡ None) (sym opened) (unasked p line (found operations (name_of bytes))) in
    let leads : move (moves.AtLine p) (Identifier bytes) line true ≡ Some (moves.OnLine p (lines.Worded word)) =
    subst (λ os. start_move p os (Identifier bytes) line true ≡ Some (moves.OnLine p (lines.Worded word))) (sym opened) refl in
    record {
      same = λ last.
          (one_on (moves.AtLine p) (moves.OnLine p (lines.Worded word)) (record { symbol = Identifier bytes; line = line })
          (record { symbol = Colon; line = colon } ∷ record { symbol = LineEnd; line = end } ∷ following) true refl passes leads).same
          last
          ∙ refl;
    }

-- the tokens of a label alone
label_taken : (p next : Position) (label colon end : Token) (following : List Token) → p.openings ≡ []
    → symbol_view label ≡ Identifier label.text.now → symbol_view colon ≡ Colon → symbol_view end ≡ LineEnd
    → next ≡ after_line p (lines.LabelAlone (record { line = label.line; name = name_of label.text.now }))
    → GoesOn (moves.AtLine p) (marks_of (label ∷ colon ∷ end ∷ following)) (moves.AtLine next) (marks_of following)
label_taken p next label colon end following opened a b c n =
    let marked : Symbol → Symbol → Symbol → List Mark =
    λ x y z. record { symbol = x; line = label.line } ∷ record { symbol = y; line = colon.line } ∷ record { symbol = z; line = end.line } ∷ marks_of following in
    let after : State = moves.AtLine (after_line p (lines.LabelAlone (record { line = label.line; name = name_of label.text.now }))) in
    rw n (subst (λ x. GoesOn (moves.AtLine p) (marked x (symbol_view colon) (symbol_view end)) after (marks_of following)) (sym a)
    (subst (λ y. GoesOn (moves.AtLine p) (marked (Identifier label.text.now) y (symbol_view end)) after (marks_of following)) (sym b)
    (subst (λ z. GoesOn (moves.AtLine p) (marked (Identifier label.text.now) Colon z) after (marks_of following)) (sym c)
    (label_on p label.text.now label.line colon.line end.line (marks_of following) opened))))

-- a label alone at the start of the tokens that are left
pub takes_label : (p next : Position) (tokens : List Token) (other : Token) (word : tree.Word) → 3 ≤ length tokens → p.openings ≡ []
    → (get_or tokens 0 other).shape ≡ Shape.Identifier → (get_or tokens 1 other).shape ≡ Shape.Colon → (get_or tokens 2 other).shape ≡ Shape.LineEnd
    → word ≡ record { line = (get_or tokens 0 other).line; name = name_of (get_or tokens 0 other).text.now } → next ≡ after_line p (lines.LabelAlone word)
    → GoesOn (moves.AtLine p) (marks_of tokens) (moves.AtLine next) (marks_of (drop 3 tokens))
takes_label p next [] other word le opened a b c w n = absurd (omega (arith, le))
takes_label p next (label ∷ []) other word le opened a b c w n = absurd (omega (arith, le))
takes_label p next (label ∷ colon ∷ []) other word le opened a b c w n = absurd (omega (arith, le))
takes_label p next (label ∷ colon ∷ end ∷ following) other word le opened a b c w n =
    label_taken p next label colon end following opened (ap (λ s. symbol_of (shape_view s) label.text.now) a) (ap (λ s. symbol_of (shape_view s) colon.text.now) b) (ap (λ s. symbol_of (shape_view s) end.text.now) c) (n ∙ ap (λ it. after_line p (lines.LabelAlone it)) w)
