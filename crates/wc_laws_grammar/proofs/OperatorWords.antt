-- Which identifiers are operators.
use Rattle.wc_model.proofs.Common.{◌≡◌, ℕ, Bool, true, false, List, [], ◌∷◌, refl, inl, inr, list_any}
use Rattle.std.specs.Prelude.{Some}
use Rattle.wc_model.specs.Definitions.{Name, name_of, Identifier, load_word, store_word, operator_word, not_word, jump_word, call_word, return_word, IsOperator, IsOperatorOf, same_name}
use Rattle.wc_model.specs.Language.Tree.{Step, Load, Store, Apply, Negate, Jump, Call, Return}
use Rattle.wc_model.specs.declared.operator.Condition.TheVariants.{Always, IfTrue, IfFalse}
use Rattle.wc_model.specs.declared.operator.Operator.{Operator}
use Rattle.wc_model.specs.declared.operator.Operator.TheVariants.{And, Andn, Or, Orn, Xor, Xorn, Add, Sub, Mul, Div, Mod, Gt, Ge, Eq, Ne, Le, Lt}
use Rattle.wc_model.specs.declared.operator.StoreKind.TheVariants.{Result, Negation, Set, Reset}

-- the words of all operators
abbrev pub operator_words : List Name
operator_words =
    load_word true ∷ load_word false ∷ store_word Result ∷ store_word Negation ∷ store_word Set ∷ store_word Reset
    ∷ operator_word And ∷ operator_word Andn ∷ operator_word Or ∷ operator_word Orn ∷ operator_word Xor ∷ operator_word Xorn
    ∷ operator_word Add ∷ operator_word Sub ∷ operator_word Mul ∷ operator_word Div ∷ operator_word Mod
    ∷ operator_word Gt ∷ operator_word Ge ∷ operator_word Eq ∷ operator_word Ne ∷ operator_word Le ∷ operator_word Lt
    ∷ not_word ∷ jump_word Always ∷ jump_word IfTrue ∷ jump_word IfFalse ∷ call_word Always ∷ call_word IfTrue ∷ call_word IfFalse
    ∷ return_word Always ∷ return_word IfTrue ∷ return_word IfFalse ∷ []

-- whether a name is one of them
abbrev pub is_operator_word : Name → Bool
is_operator_word name = list_any (same_name name) operator_words

by_word : (name word : Name) → Some name ≡ Some word → is_operator_word word ≡ true → is_operator_word name ≡ true
by_word name word e h = let k : name ≡ word = cc in rw k h

-- an identifier that is an operator which a parenthesis may defer is one of the words
pub operator_is_word : (operator : Operator) (bytes : List ℕ) (line : ℕ) → IsOperator operator (record { symbol = Identifier bytes; line = line }) → is_operator_word (name_of bytes) ≡ true
operator_is_word And bytes line (inl h) = by_word _ _ h refl
operator_is_word And bytes line (inr h) = cc
operator_is_word Andn bytes line (inl h) = by_word _ _ h refl
operator_is_word Andn bytes line (inr h) = cc
operator_is_word _ bytes line h = by_word _ _ h refl

-- and so is one with which an instruction begins
pub operator_of_is_word : (step : Step) (bytes : List ℕ) (line : ℕ) → IsOperatorOf step (record { symbol = Identifier bytes; line = line }) → is_operator_word (name_of bytes) ≡ true
operator_of_is_word (Load true x) bytes line h = by_word _ _ h refl
operator_of_is_word (Load false x) bytes line h = by_word _ _ h refl
operator_of_is_word (Store Result x) bytes line h = by_word _ _ h refl
operator_of_is_word (Store Negation x) bytes line h = by_word _ _ h refl
operator_of_is_word (Store Set x) bytes line h = by_word _ _ h refl
operator_of_is_word (Store Reset x) bytes line h = by_word _ _ h refl
operator_of_is_word (Apply operator x) bytes line h = operator_is_word operator bytes line h
operator_of_is_word Negate bytes line h = by_word _ _ h refl
operator_of_is_word (Jump Always label) bytes line h = by_word _ _ h refl
operator_of_is_word (Jump IfTrue label) bytes line h = by_word _ _ h refl
operator_of_is_word (Jump IfFalse label) bytes line h = by_word _ _ h refl
operator_of_is_word (Call Always instance arguments) bytes line h = by_word _ _ h refl
operator_of_is_word (Call IfTrue instance arguments) bytes line h = by_word _ _ h refl
operator_of_is_word (Call IfFalse instance arguments) bytes line h = by_word _ _ h refl
operator_of_is_word (Return Always) bytes line h = by_word _ _ h refl
operator_of_is_word (Return IfTrue) bytes line h = by_word _ _ h refl
operator_of_is_word (Return IfFalse) bytes line h = by_word _ _ h refl
