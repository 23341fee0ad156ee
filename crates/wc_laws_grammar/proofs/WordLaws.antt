-- What the tables of words say: a word represents one thing, and is found.
use Rattle.wc_model.proofs.Common.{◌≡◌, ℕ, Bool, true, false, List, [], ◌∷◌, map, Some, None, refl, ap, subst, ◌∙◌, inl, inr, arith, nat_tests, AllByRecursion}
use Rattle.std.specs.Prelude.{◌≢◌, if◌then◌else◌, ◌&&◌, eqb}
use Rattle.wc_laws_grammar.specs.Words.{found, OperandOperator, Loads, Stores, Applies, Operation, Operates, Negates, Jumps, Calls, Returns, operation_word, all_operations, operations, worded, step_of, operation_of, unit_kinds, section_words, truths}
use Rattle.wc_model.specs.Definitions.{same_name, truth_word, unit_word, section_word, Symbol, Identifier, Ampersand, AmpersandN, Mark, name_in, Name, name_of, IsOperator, IsOperatorOf}
use Rattle.wc_model.specs.Language.Tree.{Term, Step, Load, Store, Apply, Negate, Jump, Call, Return}
use Rattle.wc_model.specs.declared.operator.Condition.TheVariants.{Always}
use Rattle.wc_model.specs.declared.operator.Operator.{Operator}
use Rattle.wc_model.specs.declared.operator.Operator.TheVariants.{And, Andn, Or, Orn, Xor, Xorn, Add, Sub, Mul, Div, Mod, Gt, Ge, Eq, Ne, Le, Lt}
use Rattle.wc_model.specs.declared.operator.StoreKind.TheVariants.{Result}
use Rattle.wc_model.specs.declared.source.Section.{Section}
use Rattle.wc_model.specs.declared.source.UnitKind.{UnitKind}

both : (x y : ℕ) (b : Bool) → (eqb x y && b) ≡ true → (x ≡ y) × (b ≡ true)
both x y b e = (grind (arith, nat_tests, e), grind (arith, nat_tests, e))

-- names that the test takes for the same are the same
pub same_is : (xs ys : List ℕ) → same_name xs ys ≡ true → xs ≡ ys
same_is [] [] e = refl
same_is [] (y ∷ ys) e = cc
same_is (x ∷ xs) [] e = cc
same_is (x ∷ xs) (y ∷ ys) e = let p = both x y (same_name xs ys) e in let q : xs ≡ ys = same_is xs ys p.1 in cc

-- and the other way round
pub is_same : (xs : List ℕ) → same_name xs xs ≡ true
is_same [] = refl
is_same (x ∷ xs) = grind (arith, nat_tests, is_same xs)

-- names that differ are told apart
pub distinguished : (xs ys : List ℕ) → xs ≢ ys → same_name xs ys ≡ false
distinguished xs ys n = elim (same_name xs ys) as (λ b. same_name xs ys ≡ b → b ≡ false) [ true ↦ λ e. absurd (n (same_is xs ys e)) | false ↦ λ e. refl ] refl

-- what is found is in the table under that name
pub found_is : {A : Type 0} (Good : Name → A → Type 0) (table : List (Name × A)) → AllByRecursion (λ entry. Good entry.0 entry.1) table
    → (name : Name) (value : A) → found table name ≡ Some value → Good name value
found_is Good [] all name value e = cc
found_is Good (entry ∷ entries) all name value e =
    elim (same_name name entry.0) as (λ b. same_name name entry.0 ≡ b → (if b then Some entry.1 else found entries name) ≡ Some value → Good name value) [
      | true ↦ λ h k. let n : name ≡ entry.0 = same_is name entry.0 h in let v : entry.1 ≡ value = cc in rw (n, ← v) all.0
      | false ↦ λ h k. found_is Good entries all.1 name value k
    ] refl e

all_worded : (all : List Operation) → AllByRecursion (λ entry. entry.0 ≡ operation_word entry.1) (map worded all)
all_worded [] = tt
all_worded (operation ∷ all) = (refl, all_worded all)

-- the operator that is found under a name has that word
pub found_operation : (name : Name) (operation : Operation) → found operations name ≡ Some operation → name ≡ operation_word operation
found_operation name operation e = found_is (λ n o. n ≡ operation_word o) operations (all_worded all_operations) name operation e

-- each operator is found under its word
pub operation_found : (operation : Operation) → found operations (operation_word operation) ≡ Some operation
operation_found (Operates (Loads false)) = refl
operation_found (Operates (Stores Result)) = refl
operation_found (Operates (Applies And)) = refl
operation_found (Jumps Always) = refl
operation_found (Calls Always) = refl
operation_found (Returns Always) = refl
operation_found another = refl

-- a literal that is found under a name has that word
pub truth_found : (name : Name) (value : Bool) → found truths name ≡ Some value → name ≡ truth_word value
truth_found name value e = found_is (λ n v. n ≡ truth_word v) truths (refl, (refl, tt)) name value e

-- each literal's word is found
pub truth_is_found : (value : Bool) → found truths (truth_word value) ≡ Some value
truth_is_found true = refl
truth_is_found false = refl

-- a name under which no literal is found has the word of none
pub not_truth : (name : Name) → found truths name ≡ None → (value : Bool) → name ≢ truth_word value
not_truth name e true k = let h : found truths (truth_word true) ≡ None = subst (λ n. found truths n ≡ None) k e in cc
not_truth name e false k = let h : found truths (truth_word false) ≡ None = subst (λ n. found truths n ≡ None) k e in cc

-- and the other way round
pub no_truth : (name : Name) → ((value : Bool) → name ≢ truth_word value) → found truths name ≡ None
no_truth name ordinary = elim (found truths name) as (λ o. found truths name ≡ o → o ≡ None) [
  | None ↦ λ e. refl
  | Some value ↦ λ e. absurd (ordinary value (truth_found name value e))
] refl

-- the kind of unit that is found under a name has that word
pub found_unit_kind : (name : Name) (kind : UnitKind) → found unit_kinds name ≡ Some kind → name ≡ unit_word kind
found_unit_kind name kind e = found_is (λ n k. n ≡ unit_word k) unit_kinds (refl, (refl, tt)) name kind e

-- the section that is found under a name has that word
pub found_section : (name : Name) (section : Section) → found section_words name ≡ Some section → name ≡ section_word section
found_section name section e = found_is (λ n s. n ≡ section_word s) section_words (refl, (refl, (refl, tt))) name section e

from_word : (name : Name) (operation : Operation) → found operations name ≡ Some operation → Some name ≡ Some (operation_word operation)
from_word name operation e = ap (λ n. Some n) (found_operation name operation e)

-- a token that is a deferrable operator
pub is_operator : (operator : Operator) (symbol : Symbol) (line : ℕ) → operation_of symbol ≡ Some (Operates (Applies operator)) → IsOperator operator (record { symbol = symbol; line = line })
is_operator And (Identifier bytes) line e = inl (from_word _ _ e)
is_operator Andn (Identifier bytes) line e = inl (from_word _ _ e)
is_operator _ (Identifier bytes) line e = from_word _ _ e
is_operator And Ampersand line e = inr refl
is_operator Andn AmpersandN line e = inr refl
is_operator _ _ line e = absurd (cc)

-- the operator with which a step begins
abbrev pub operation_in : Step → Operation
operation_in (Load negated x) = Operates (Loads negated)
operation_in (Store storing x) = Operates (Stores storing)
operation_in (Apply operator x) = Operates (Applies operator)
operation_in Negate = Negates
operation_in (Jump condition label) = Jumps condition
operation_in (Call condition instance arguments) = Calls condition
operation_in (Return condition) = Returns condition

-- a token that is the operator of a step
pub is_operator_of : (step : Step) (symbol : Symbol) (line : ℕ) → operation_of symbol ≡ Some (operation_in step) → IsOperatorOf step (record { symbol = symbol; line = line })
is_operator_of (Apply operator x) symbol line e = is_operator operator symbol line e
is_operator_of (Load negated x) (Identifier bytes) line e = from_word _ _ e
is_operator_of (Store storing x) (Identifier bytes) line e = from_word _ _ e
is_operator_of Negate (Identifier bytes) line e = from_word _ _ e
is_operator_of (Jump condition label) (Identifier bytes) line e = from_word _ _ e
is_operator_of (Call condition instance arguments) (Identifier bytes) line e = from_word _ _ e
is_operator_of (Return condition) (Identifier bytes) line e = from_word _ _ e
is_operator_of _ _ line e = absurd (cc)

-- the step of an operator with its operand begins with it
pub operation_in_step : (operating : OperandOperator) (x : Term) → operation_in (step_of operating x) ≡ Operates operating
operation_in_step (Loads negated) x = refl
operation_in_step (Stores storing) x = refl
operation_in_step (Applies operator) x = refl

-- a token of an operator's word is that operator
pub named_operation : (symbol : Symbol) (operation : Operation) → name_in symbol ≡ Some (operation_word operation) → operation_of symbol ≡ Some operation
named_operation (Identifier bytes) operation e =
    let k : operation_word operation ≡ name_of bytes = cc in
    subst (λ n. found operations n ≡ Some operation) k (operation_found operation)
named_operation _ operation e = absurd (cc)

by_symbol : {A : Type 0} (symbol : Symbol) (f : Symbol → A) (other : Symbol) (value : A) → symbol ≡ other → f other ≡ value → f symbol ≡ value
by_symbol symbol f other value e h = ap f e ∙ h

-- a token that a step may begin with is its operator
pub operator_is : (operator : Operator) (mark : Mark) → IsOperator operator mark → operation_of mark.symbol ≡ Some (Operates (Applies operator))
operator_is And mark (inl h) = named_operation mark.symbol (Operates (Applies And)) h
operator_is And mark (inr h) = by_symbol mark.symbol operation_of _ _ h refl
operator_is Andn mark (inl h) = named_operation mark.symbol (Operates (Applies Andn)) h
operator_is Andn mark (inr h) = by_symbol mark.symbol operation_of _ _ h refl
operator_is Or mark h = named_operation mark.symbol (Operates (Applies Or)) h
operator_is Orn mark h = named_operation mark.symbol (Operates (Applies Orn)) h
operator_is Xor mark h = named_operation mark.symbol (Operates (Applies Xor)) h
operator_is Xorn mark h = named_operation mark.symbol (Operates (Applies Xorn)) h
operator_is Add mark h = named_operation mark.symbol (Operates (Applies Add)) h
operator_is Sub mark h = named_operation mark.symbol (Operates (Applies Sub)) h
operator_is Mul mark h = named_operation mark.symbol (Operates (Applies Mul)) h
operator_is Div mark h = named_operation mark.symbol (Operates (Applies Div)) h
operator_is Mod mark h = named_operation mark.symbol (Operates (Applies Mod)) h
operator_is Gt mark h = named_operation mark.symbol (Operates (Applies Gt)) h
operator_is Ge mark h = named_operation mark.symbol (Operates (Applies Ge)) h
operator_is Eq mark h = named_operation mark.symbol (Operates (Applies Eq)) h
operator_is Ne mark h = named_operation mark.symbol (Operates (Applies Ne)) h
operator_is Le mark h = named_operation mark.symbol (Operates (Applies Le)) h
operator_is Lt mark h = named_operation mark.symbol (Operates (Applies Lt)) h

-- the token with which a step begins is its operator
pub step_begins : (step : Step) (mark : Mark) → IsOperatorOf step mark → operation_of mark.symbol ≡ Some (operation_in step)
step_begins (Load negated x) mark h = named_operation mark.symbol (Operates (Loads negated)) h
step_begins (Store storing x) mark h = named_operation mark.symbol (Operates (Stores storing)) h
step_begins (Apply operator x) mark h = operator_is operator mark h
step_begins Negate mark h = named_operation mark.symbol Negates h
step_begins (Jump condition label) mark h = named_operation mark.symbol (Jumps condition) h
step_begins (Call condition instance arguments) mark h = named_operation mark.symbol (Calls condition) h
step_begins (Return condition) mark h = named_operation mark.symbol (Returns condition) h
