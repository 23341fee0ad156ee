-- The first token of a line is taken by the walk.
use Rattle.std.proofs.Common.{◌≡◌, ℕ, Bool, false, List, [], ◌∷◌, Some, None, refl, ap, subst, if◌then◌else◌, ◌∙◌, sym, inl, inr}
use Rattle.wc_laws_grammar.proofs.LineComplete.{Leads, end_is, after_step, step_parts, opening_parts}
use Rattle.wc_laws_grammar.specs.{LineShape, LabelAlone, Instructs, Opens, Worded, at_operator, after_operator, operator_or_label, at_start, simple_operator, at_start_in, is_colon, colon_next, Applies, Operation, Operates, is_transfer, operation_of}
use Rattle.wc_laws_grammar.proofs.LineRests.{line_of, labelled_rest, rest_of}
use Rattle.wc_laws_grammar.proofs.LineSound.{mark_on}
use Rattle.wc_laws_grammar.proofs.WordLaws.{operation_in}
use Rattle.wc_laws_grammar.proofs.Languages.{next_is, passed, both_empty, given_are, ungroup, after}
use Rattle.wc_model.specs.Text.Grammar as grammar
use Rattle.wc_model.specs.Definitions.{operand, operands_of, IsLiteral, Setting, InBody, InParentheses, MayOccur, ◌then◌, Symbol, Identifier, Colon, LineEnd, OpeningBracket, Mark, IsWord, name_in, address_in, Ampersand, AmpersandN, Name, name_of}
use Rattle.wc_model.specs.Language.Tree.{Word, Term, Constant, Address, Variable, Field, Step, Load, Store, Apply, Negate, Jump, Call, Return}
use Rattle.wc_model.specs.declared.value.Value.{Value}
use Rattle.wc_model.specs.declared.value.Value.TheVariants.{Bool as BoolValue, Dint, Time}

-- a symbol that is another is not a colon if the other is not
pub no_colon : (symbol other : Symbol) → symbol ≡ other → is_colon other ≡ false → is_colon symbol ≡ false
no_colon symbol other e n = ap is_colon e ∙ n

-- a symbol that is a name is not a colon
pub no_colon_name : (symbol : Symbol) (name : Name) → name_in symbol ≡ Some name → is_colon symbol ≡ false
no_colon_name Colon name e = absurd (cc)
no_colon_name _ name e = refl

no_colon_address : (symbol : Symbol) (name : Name) → address_in symbol ≡ Some name → is_colon symbol ≡ false
no_colon_address Colon name e = absurd (cc)
no_colon_address _ name e = refl

no_colon_literal : (value : Value) (mark : Mark) → IsLiteral value mark → is_colon mark.symbol ≡ false
no_colon_literal (BoolValue value) mark (inl e) = no_colon mark.symbol _ e refl
no_colon_literal (BoolValue value) mark (inr e) = no_colon_name mark.symbol _ e
no_colon_literal (Dint number) mark e = no_colon mark.symbol _ e refl
no_colon_literal (Time number) mark e = no_colon mark.symbol _ e refl

-- an operand begins with no colon
operand_no_colon : (x : Term) (second : List Mark → Type 0) (tokens : List Mark) (colon : Bool) → (operand x then second) tokens → colon_next tokens colon ≡ false
operand_no_colon (Constant value) second [] colon h = absurd ((both_empty h).0)
operand_no_colon (Address word) second [] colon h = absurd ((both_empty h).0)
operand_no_colon (Variable name) second [] colon h = absurd ((both_empty h).0.1)
operand_no_colon (Field instance field) second [] colon h = absurd ((both_empty (both_empty h).0).0.1)
operand_no_colon (Constant value) second (mark ∷ marks) colon h = no_colon_literal value mark (next_is h).0
operand_no_colon (Address word) second (mark ∷ marks) colon h = no_colon_address mark.symbol word.name (next_is h).0.0
operand_no_colon (Variable name) second (mark ∷ marks) colon h = no_colon_name mark.symbol name (next_is (given_are h).1).0
operand_no_colon (Field instance field) second (mark ∷ marks) colon h = no_colon_name mark.symbol instance (next_is (given_are (ungroup h)).1).0

-- a line's end is not a colon
end_no_colon : (tokens : List Mark) (colon : Bool) → grammar.symbol LineEnd tokens → colon_next tokens colon ≡ false
end_no_colon [] colon h = absurd h
end_no_colon (mark ∷ marks) colon h = no_colon mark.symbol LineEnd (end_is mark.symbol mark.line marks h).0 refl

identifier_no_colon : (name : Name) (second : List Mark → Type 0) (tokens : List Mark) (colon : Bool) → (grammar.identifier name then second) tokens → colon_next tokens colon ≡ false
identifier_no_colon name second [] colon h = absurd ((both_empty h).0)
identifier_no_colon name second (mark ∷ marks) colon h = no_colon_name mark.symbol name (next_is h).0

-- what follows an operator begins with no colon
step_no_colon : (step : Step) (tokens : List Mark) (colon : Bool) → (operands_of step then grammar.symbol LineEnd) tokens → colon_next tokens colon ≡ false
step_no_colon (Load negated x) tokens colon h = operand_no_colon x _ tokens colon h
step_no_colon (Store storing x) tokens colon h = operand_no_colon x _ tokens colon h
step_no_colon (Apply operator x) tokens colon h = operand_no_colon x _ tokens colon h
step_no_colon Negate tokens colon h = end_no_colon tokens colon (passed h)
step_no_colon (Jump condition label) tokens colon h = identifier_no_colon label _ tokens colon h
step_no_colon (Call condition instance arguments) tokens colon h = identifier_no_colon instance _ tokens colon (ungroup h)
step_no_colon (Return condition) tokens colon h = end_no_colon tokens colon (passed h)

-- a bracket is not a colon
pub bracket_no_colon : (second : List Mark → Type 0) (tokens : List Mark) (colon : Bool) → (grammar.symbol OpeningBracket then second) tokens → colon_next tokens colon ≡ false
bracket_no_colon second [] colon h = absurd ((both_empty h).0)
bracket_no_colon second (mark ∷ marks) colon h = no_colon mark.symbol OpeningBracket (next_is h).0 refl

-- an operator that no colon follows is taken in a body
pub operator_taken : (symbol : Symbol) (line : ℕ) (operation : Operation) (colon : Bool) → operation_of symbol ≡ Some operation → colon ≡ false → at_start symbol line colon ≡ Some (after_operator None line operation)
operator_taken (Identifier bytes) line operation colon e n =
    ap (λ c. at_start (Identifier bytes) line c) n ∙ ap (λ o. Some (operator_or_label (record { line = line; name = name_of bytes }) o)) e
operator_taken Ampersand line operation colon e n = ap (λ o. at_operator None line o) e
operator_taken AmpersandN line operation colon e n = ap (λ o. at_operator None line o) e
operator_taken _ line operation colon e n = absurd (cc)

-- and one that is not a jump, call or return is taken inside parentheses
pub simple_taken : (symbol : Symbol) (line : ℕ) (operation : Operation) → operation_of symbol ≡ Some operation → is_transfer operation ≡ false → simple_operator line (operation_of symbol) ≡ Some (after_operator None line operation)
simple_taken symbol line operation e n = ap (simple_operator line) e ∙ ap (λ b. if b then None else Some (after_operator None line operation)) n

-- what is inside parentheses is not a transfer
pub no_transfer : (step : Step) → MayOccur InParentheses step → is_transfer (operation_in step) ≡ false
no_transfer (Load negated x) h = refl
no_transfer (Store storing x) h = refl
no_transfer (Apply operator x) h = refl
no_transfer Negate h = refl
no_transfer (Jump condition label) h = absurd (h tt)
no_transfer (Call condition instance arguments) h = absurd (h tt)
no_transfer (Return condition) h = absurd (h tt)

-- an operator is taken, where it may be
pub taken : (setting : Setting) (symbol : Symbol) (line : ℕ) (operation : Operation) (colon : Bool) → operation_of symbol ≡ Some operation → colon ≡ false → (setting ≡ InParentheses → is_transfer operation ≡ false)
    → at_start_in setting symbol line colon ≡ Some (after_operator None line operation)
taken InBody symbol line operation colon e n may = operator_taken symbol line operation colon e n
taken InParentheses symbol line operation colon e n may = simple_taken symbol line operation e (may refl)

label_word : (label : Word) (line_shape : LineShape) (symbol : Symbol) (line : ℕ) (tokens : List Mark) (colon : Bool) → IsWord label (mark_on symbol line) → (grammar.symbol Colon then labelled_rest label line_shape) tokens
    → Leads (at_start symbol line (colon_next tokens colon)) line_shape tokens
label_word label line_shape symbol line [] colon e h = absurd ((both_empty h).0)
label_word label line_shape (Identifier bytes) line (mark ∷ marks) colon e h =
    let k = next_is h in
    subst (λ s. Leads (at_start (Identifier bytes) line (is_colon s)) line_shape (mark ∷ marks)) (sym k.0)
    (subst (λ w. rest_of (Worded w) line_shape (mark ∷ marks)) (sym (word_is bytes line label (e.0) e.1)) h)
  where
    word_is : (bytes : List ℕ) (line : ℕ) (label : Word) → Some (name_of bytes) ≡ Some label.name → line ≡ label.line → record { line = line; name = name_of bytes } ≡ label
    word_is bytes line label a b = let n : name_of bytes ≡ label.name = cc in λ i. record { line = b i; name = n i }
label_word label line_shape _ line (mark ∷ marks) colon e h = let k = e.0 in absurd (cc)

-- the first token of a line is taken, if a colon follows it or does not
pub start_led : (setting : Setting) (line_shape : LineShape) (symbol : Symbol) (line : ℕ) (tokens : List Mark) (colon : Bool) → line_of setting line_shape (mark_on symbol line ∷ tokens)
    → Leads (at_start_in setting symbol line (colon_next tokens colon)) line_shape tokens
start_led InBody (LabelAlone label) symbol line tokens colon h = let k = next_is (ungroup h) in label_word label (LabelAlone label) symbol line tokens colon k.0 (after (λ ts l. (refl, l)) k.1)
start_led InParentheses (LabelAlone label) symbol line tokens colon h = absurd h.begins
start_led InBody (Instructs (Some label) at step) symbol line tokens colon h =
    let k = next_is (ungroup h.1) in label_word label (Instructs (Some label) at step) symbol line tokens colon k.0 (after (λ ts l. (refl, l)) k.1)
start_led InParentheses (Instructs (Some label) at step) symbol line tokens colon h = absurd h.1.begins
start_led InBody (Opens (Some label) at operator x) symbol line tokens colon h =
    let k = next_is (ungroup h) in label_word label (Opens (Some label) at operator x) symbol line tokens colon k.0 (after (λ ts l. (refl, l)) k.1)
start_led InParentheses (Opens (Some label) at operator x) symbol line tokens colon h = absurd h.begins
start_led setting (Instructs None at step) symbol line tokens colon h =
    let k = step_parts at step symbol line tokens (passed h.1) in
    subst (λ o. Leads o (Instructs None at step) tokens) (sym (taken setting symbol line (operation_in step) (colon_next tokens colon) k.0 (step_no_colon step tokens colon k.2) (λ e. no_transfer step (subst (λ s. MayOccur s step) e h.0))))
    (subst (λ n. rest_of (after_operator None line (operation_in step)) (Instructs None n step) tokens) k.1 (after_step None line step tokens k.2))
start_led setting (Opens None at operator x) symbol line tokens colon h =
    let k = opening_parts at operator x symbol line tokens (passed h) in
    subst (λ o. Leads o (Opens None at operator x) tokens) (sym (taken setting symbol line (Operates (Applies operator)) (colon_next tokens colon) k.0 (bracket_no_colon _ tokens colon k.2) (λ e. refl)))
    (inr (operator, x, refl, ap (λ n. Opens None n operator x) (sym k.1), k.2))
