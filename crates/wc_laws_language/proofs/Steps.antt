-- A step that breaks no rule goes well.
use Rattle.std.proofs.Common.{◌≡◌, ℕ, zero, suc, Bool, true, false, not, ◌&&◌, ◌||◌, List, [], ◌∷◌, ◌++◌, Option, Some, None, Result, Ok, pos, negsuc, refl, sym, ap, subst, ◌∙◌, ◌⊎◌, inl, inr, ⊎_elim, arith}
use Rattle.wc_model.proofs.Common.{if◌then◌else◌, is_some, leb-true}
use Rattle.wc_model.specs.Definitions.{is_readable, is_writable, is_of, is_bool, takes, divides, is_divisor, is_bit_literal, suits_result, load_checks, store_checks, apply_checks, is_ahead, truth_checks, condition_checks, Check, BodyLine, is_kind, term_kind, step_leaves, Mode, Running, Seeking, Returned, Effect, Goes, Context, as_truth, takes_truth, alongside, value_of, written_to, given, from_value, from_store, acts, chosen, stored, set_where, store_effect, next, step_effect, Name, apply, negated, Reason, Scope, kind_of, entity_of, Store, At}
use Rattle.wc_model.specs.Language.Tree.{Term, Constant, Address, Variable as NameOf, Field, Load, Store as StoreStep, Apply, Negate, Jump, Return}
use Rattle.wc_model.specs.declared.kind.Kind.{Kind}
use Rattle.wc_model.specs.declared.kind.Kind.TheVariants.{Bool as KindBool, Dint as KindDint, Time as KindTime}
use Rattle.wc_model.specs.declared.operator.Condition.{Condition}
use Rattle.wc_model.specs.declared.operator.Condition.TheVariants.{Always, IfTrue, IfFalse}
use Rattle.wc_model.specs.declared.operator.Operator.{Operator}
use Rattle.wc_model.specs.declared.operator.Operator.TheVariants.{Div, Mod}
use Rattle.wc_model.specs.declared.operator.StoreKind.{StoreKind}
use Rattle.wc_model.specs.declared.operator.StoreKind.TheVariants.{Result as StoreResult, Negation, Set, Reset}
use Rattle.wc_model.specs.declared.value.Value.{Value}
use Rattle.wc_model.specs.declared.value.Value.TheVariants.{Bool as Truth, Dint, Time}
use Rattle.wc_laws_language.proofs.Applying.{GivesAfter, applied, by_divisor, truth_of}
use Rattle.wc_laws_language.proofs.Entities.{GivesKind, term_read, term_written, writable_is_stored}
use Rattle.wc_laws_language.proofs.Places.{SameSlots-refl}
use Rattle.wc_laws_language.proofs.Tests.{both-true, same_name-refl}
use Rattle.wc_laws_language.specs.{Clean, Agrees, GoesWell, LeadsTo, FitsScope}

-- rules joined hold each
pub clean_first : (xs ys : List Check) → Clean (xs ++ ys) → Clean xs
clean_first [] ys c = tt
clean_first (x ∷ xs) ys c = (c.0, clean_first xs ys c.1)

pub clean_second : (xs ys : List Check) → Clean (xs ++ ys) → Clean ys
clean_second [] ys c = c
clean_second (x ∷ xs) ys c = clean_second xs ys c.1

-- what a test for something finds
pub some_of : {X : Type 0} (o : Option X) → is_some o ≡ true → (x : X) × (o ≡ Some x)
some_of (Some x) e = (x, refl)
some_of None e = cc

-- kinds that pass the test are the same
pub is_kind-sound : (a b : Kind) → is_kind a b ≡ true → a ≡ b
is_kind-sound KindBool KindBool e = refl
is_kind-sound KindDint KindDint e = refl
is_kind-sound KindTime KindTime e = refl
is_kind-sound a b e = cc

pub is_of-sound : (kind : Kind) (found : Option Kind) → is_of (is_kind kind) found ≡ true → found ≡ Some kind
is_of-sound kind None e = cc
is_of-sound kind (Some k) e = ap Some (sym (is_kind-sound kind k e))

-- going well, step by step
pub value_goes : (P : Mode → Type 0) (store : Store) (r : Result Value Reason) (go : Value → Effect) (value : Value) → r ≡ Ok value → GoesWell P store (go value) → GoesWell P store (from_value r go)
value_goes P store r go value e h = subst (λ (x : Result Value Reason). GoesWell P store (from_value x go)) (sym e) h

pub store_goes : (P : Mode → Type 0) (store : Store) (r : Result Store Reason) (go : Store → Effect) (new : Store) → r ≡ Ok new → GoesWell P store (go new) → GoesWell P store (from_store r go)
store_goes P store r go new e h = subst (λ (x : Result Store Reason). GoesWell P store (from_store x go)) (sym e) h

-- a BOOL has a negation
pub negation : (value : Value) → kind_of value ≡ KindBool → (b : Bool) × (negated value ≡ Ok (Truth b))
negation (Truth b) e = (not b, refl)
negation (Dint n) e = cc
negation (Time t) e = cc

-- if 0 and 1 may be BOOLs, an operand has a value of the result's kind
pub as_truth-same : (scope : Scope) (term : Term) → term_kind scope term ≡ Some KindBool → as_truth term ≡ term
as_truth-same scope (Constant (Truth b)) e = refl
as_truth-same scope (Constant (Dint n)) e = cc
as_truth-same scope (Constant (Time t)) e = cc
as_truth-same scope (Address word) e = refl
as_truth-same scope (NameOf name) e = refl
as_truth-same scope (Field instance field) e = refl

pub bit_value : (here : Context) (store : Store) (term : Term) → is_bit_literal term ≡ true → GivesKind KindBool (value_of here store (as_truth term))
bit_value here store (Constant (Dint (pos zero))) e = (Truth false, refl, refl)
bit_value here store (Constant (Dint (pos (suc zero)))) e = (Truth true, refl, refl)
bit_value here store (Constant (Dint (pos (suc (suc n))))) e = absurd (let l = leb-true (suc (suc n)) 1 e in omega (arith, l))
bit_value here store (Constant (Dint (negsuc n))) e = cc
bit_value here store other e = cc

pub or-true : (x y : Bool) → (x || y) ≡ true → (x ≡ true) ⊎ (y ≡ true)
or-true true y e = inl refl
or-true false y e = inr e

-- next to a BOOL that the operator takes, or by itself
pub alongside_truth : (here : Context) (store : Store) → FitsScope store here.instance here.scope → (term : Term) (t : Bool) → is_readable (entity_of here.scope term) ≡ true → (term_kind here.scope term ≡ Some KindBool) ⊎ ((t ≡ true) × (is_bit_literal term ≡ true)) → GivesKind KindBool (value_of here store (if t then as_truth term else term))
alongside_truth here store fits term true r (inl k) = subst (λ (x : Term). GivesKind KindBool (value_of here store x)) (sym (as_truth-same here.scope term k)) (term_read here store fits term KindBool k r)
alongside_truth here store fits term true r (inr b) = bit_value here store term b.1
alongside_truth here store fits term false r (inl k) = term_read here store fits term KindBool k r
alongside_truth here store fits term false r (inr b) = cc

pub operand_at : (here : Context) (store : Store) → FitsScope store here.instance here.scope → (operator : Operator) (term : Term) (a : Value) → is_readable (entity_of here.scope term) ≡ true → suits_result here.scope operator term (Some (kind_of a)) ≡ true → GivesKind (kind_of a) (value_of here store (alongside operator a term))
operand_at here store fits operator term (Truth b) r s =
    alongside_truth here store fits term (takes_truth operator) r
    (⊎_elim (λ h. inl (is_of-sound KindBool (term_kind here.scope term) h)) (λ h. inr (both-true (takes_truth operator) (is_bit_literal term) h)) (or-true (is_of (is_kind KindBool) (term_kind here.scope term)) (takes_truth operator && is_bit_literal term) s))
operand_at here store fits operator term (Dint n) r s =
    ⊎_elim (λ h. term_read here store fits term KindDint (is_of-sound KindDint (term_kind here.scope term) h) r) (λ h. absurd (cc)) (or-true (is_of (is_kind KindDint) (term_kind here.scope term)) false s)
operand_at here store fits operator term (Time t) r s =
    ⊎_elim (λ h. term_read here store fits term KindTime (is_of-sound KindTime (term_kind here.scope term) h) r) (λ h. absurd (cc)) (or-true (is_of (is_kind KindTime) (term_kind here.scope term)) false s)

pub operand_value : (here : Context) (store : Store) → FitsScope store here.instance here.scope → (operator : Operator) (term : Term) (kind : Kind) (a : Value) → kind_of a ≡ kind → is_readable (entity_of here.scope term) ≡ true → suits_result here.scope operator term (Some kind) ≡ true → GivesKind kind (value_of here store (alongside operator a term))
operand_value here store fits operator term kind a ka r s =
    subst (λ (k : Kind). GivesKind k (value_of here store (alongside operator a term))) ka (operand_at here store fits operator term a r (subst (λ (k : Kind). suits_result here.scope operator term (Some k) ≡ true) (sym ka) s))

-- a step that loads
pub load_goes : (here : Context) (store : Store) → FitsScope store here.instance here.scope → (line : ℕ) (negation : Bool) (operand : Term) (following : List BodyLine) (kind : Option Kind) (result : Option Value) → Clean (load_checks here.scope line negation operand) → GoesWell (LeadsTo here.scope (Load negation operand) following kind) store (step_effect here line (Load negation operand) result store)
load_goes here store fits line false operand following kind result c =
    let k = some_of (term_kind here.scope operand) c.1.1.0 in
    let v = term_read here store fits operand k.0 k.1 c.1.0 in
    value_goes (LeadsTo here.scope (Load false operand) following kind) store (value_of here store operand) (next line store) v.0 v.1
    ((subst (λ (x : Option Kind). Agrees x (Some v.0)) (sym k.1) v.2, refl), SameSlots-refl store)
load_goes here store fits line true operand following kind result c =
    let k = is_of-sound KindBool (term_kind here.scope operand) c.1.1.0 in
    let v = term_read here store fits operand KindBool k c.1.0 in
    let n = negation v.0 v.2 in
    value_goes (LeadsTo here.scope (Load true operand) following kind) store (value_of here store operand) (λ value. from_value (negated value) (next line store)) v.0 v.1
    (value_goes (LeadsTo here.scope (Load true operand) following kind) store (negated v.0) (next line store) (Truth n.0) n.1 ((refl, refl), SameSlots-refl store))

-- a step that stores
pub stored_goes : (here : Context) (store : Store) → FitsScope store here.instance here.scope → (line : ℕ) (storing : StoreKind) (target : Term) (following : List BodyLine) (kind : Option Kind) (value result : Value) → Agrees kind (Some result) → is_some (entity_of here.scope target) ≡ true → is_writable (entity_of here.scope target) ≡ true → term_kind here.scope target ≡ Some (kind_of value) → GoesWell (LeadsTo here.scope (StoreStep storing target) following kind) store (stored here line store target value result)
stored_goes here store fits line storing target following kind value result agrees found writable k =
    let w = term_written here store fits target value k writable (writable_is_stored here.scope target found writable) in
    store_goes (LeadsTo here.scope (StoreStep storing target) following kind) store (written_to here store target value) (λ new. Goes (Running (Some result)) new (At line ∷ [])) w.0 w.1 ((agrees, refl), w.2)

-- ST of a result of a kind
pub store_result_goes : (here : Context) (store : Store) → FitsScope store here.instance here.scope → (line : ℕ) (target : Term) (following : List BodyLine) (kind : Option Kind) (result : Option Value) → Agrees kind result → Clean (store_checks here.scope line StoreResult target kind) → GoesWell (LeadsTo here.scope (StoreStep StoreResult target) following kind) store (given result (store_effect here line store StoreResult target))
store_result_goes here store fits line target following None result a c = cc
store_result_goes here store fits line target following (Some k) None a c = absurd a
store_result_goes here store fits line target following (Some k) (Some value) a c =
    stored_goes here store fits line StoreResult target following (Some k) value value a c.0 c.1.0 (is_of-sound k (term_kind here.scope target) c.1.1.1.0 ∙ ap Some (sym a))

-- STN, S and R of a BOOL
pub set_goes : (here : Context) (store : Store) → FitsScope store here.instance here.scope → (line : ℕ) (storing : StoreKind) (target : Term) (following : List BodyLine) (value b : Bool) → is_some (entity_of here.scope target) ≡ true → is_writable (entity_of here.scope target) ≡ true → term_kind here.scope target ≡ Some KindBool → GoesWell (LeadsTo here.scope (StoreStep storing target) following (Some KindBool)) store (set_where here line store target value (Truth b))
set_goes here store fits line storing target following value true found writable k = stored_goes here store fits line storing target following (Some KindBool) (Truth value) (Truth true) refl found writable k
set_goes here store fits line storing target following value false found writable k = ((refl, refl), SameSlots-refl store)

-- what STN, S and R ask of the result
pub truth_known : (kind : Option Kind) (result : Option Value) → is_bool kind ≡ true → Agrees kind result → (b : Bool) × (kind ≡ Some KindBool) × (result ≡ Some (Truth b))
truth_known None result e a = cc
truth_known (Some k) None e a = absurd a
truth_known (Some k) (Some value) e a =
    let same = is_kind-sound KindBool k e in
    let t = truth_of value (a ∙ sym same) in
    (t.0, ap Some (sym same), ap Some t.1)

pub store_goes_on : (here : Context) (store : Store) → FitsScope store here.instance here.scope → (line : ℕ) (storing : StoreKind) (target : Term) (following : List BodyLine) (b : Bool) → Clean (store_checks here.scope line storing target (Some KindBool)) → GoesWell (LeadsTo here.scope (StoreStep storing target) following (Some KindBool)) store (store_effect here line store storing target (Truth b))
store_goes_on here store fits line StoreResult target following b c = stored_goes here store fits line StoreResult target following (Some KindBool) (Truth b) (Truth b) refl c.0 c.1.0 (is_of-sound KindBool (term_kind here.scope target) c.1.1.1.0)
store_goes_on here store fits line Negation target following b c = stored_goes here store fits line Negation target following (Some KindBool) (Truth (not b)) (Truth b) refl c.0 c.1.0 (is_of-sound KindBool (term_kind here.scope target) c.1.1.1.1.0)
store_goes_on here store fits line Set target following b c = set_goes here store fits line Set target following true b c.0 c.1.0 (is_of-sound KindBool (term_kind here.scope target) c.1.1.1.1.0)
store_goes_on here store fits line Reset target following b c = set_goes here store fits line Reset target following false b c.0 c.1.0 (is_of-sound KindBool (term_kind here.scope target) c.1.1.1.1.0)

pub store_truth_goes : (here : Context) (store : Store) → FitsScope store here.instance here.scope → (line : ℕ) (storing : StoreKind) (target : Term) (following : List BodyLine) (kind : Option Kind) (result : Option Value) → is_bool kind ≡ true → Agrees kind result → Clean (store_checks here.scope line storing target kind) → GoesWell (LeadsTo here.scope (StoreStep storing target) following kind) store (given result (store_effect here line store storing target))
store_truth_goes here store fits line storing target following kind result e a c =
    let t = truth_known kind result e a in
    subst (λ (k : Option Kind). GoesWell (LeadsTo here.scope (StoreStep storing target) following k) store (given result (store_effect here line store storing target))) (sym t.1)
    (subst (λ (r : Option Value). GoesWell (LeadsTo here.scope (StoreStep storing target) following (Some KindBool)) store (given r (store_effect here line store storing target))) (sym t.2)
    (store_goes_on here store fits line storing target following t.0 (subst (λ (k : Option Kind). Clean (store_checks here.scope line storing target k)) t.1 c)))

-- DIV and MOD take no BOOL and no TIME
pub divides-truth : (operator : Operator) → divides operator ≡ true → takes operator KindBool ≡ true → ⊥
divides-truth Div d t = cc
divides-truth Mod d t = cc
divides-truth operator d t = cc

pub divides-time : (operator : Operator) → divides operator ≡ true → takes operator KindTime ≡ true → ⊥
divides-time Div d t = cc
divides-time Mod d t = cc
divides-time operator d t = cc

-- DIV and MOD by a literal
pub divided_at : (here : Context) (store : Store) (operator : Operator) → divides operator ≡ true → (value : Value) (operand : Term) → takes operator (kind_of value) ≡ true → is_divisor operand ≡ true → (b : Value) × (value_of here store (alongside operator value operand) ≡ Ok b) × GivesAfter operator (kind_of value) (apply operator value b)
divided_at here store operator d (Dint x) (Constant (Dint n)) t nz = (Dint n, refl, by_divisor operator d x n nz)
divided_at here store operator d (Dint x) (Constant (Truth b)) t nz = cc
divided_at here store operator d (Dint x) (Constant (Time y)) t nz = cc
divided_at here store operator d (Dint x) (Address word) t nz = cc
divided_at here store operator d (Dint x) (NameOf name) t nz = cc
divided_at here store operator d (Dint x) (Field instance field) t nz = cc
divided_at here store operator d (Truth b) operand t nz = absurd (divides-truth operator d t)
divided_at here store operator d (Time y) operand t nz = absurd (divides-time operator d t)

-- an operator with its operand, once the operand has a value
pub applied_goes : (here : Context) (store : Store) (line : ℕ) (operator : Operator) (operand : Term) (following : List BodyLine) (k : Kind) (value b : Value) → value_of here store (alongside operator value operand) ≡ Ok b → GivesAfter operator k (apply operator value b) → GoesWell (LeadsTo here.scope (Apply operator operand) following (Some k)) store (step_effect here line (Apply operator operand) (Some value) store)
applied_goes here store line operator operand following k value b e g =
    value_goes (LeadsTo here.scope (Apply operator operand) following (Some k)) store (value_of here store (alongside operator value operand)) (λ x. from_value (apply operator value x) (next line store)) b e
    (value_goes (LeadsTo here.scope (Apply operator operand) following (Some k)) store (apply operator value b) (next line store) g.0 g.1 ((subst (λ (x : Option Kind). Agrees x (Some g.0)) g.2 refl, refl), SameSlots-refl store))

-- by whether it divides
pub apply_by : (here : Context) (store : Store) → FitsScope store here.instance here.scope → (line : ℕ) (operator : Operator) (operand : Term) (following : List BodyLine) (k : Kind) (value : Value) → kind_of value ≡ k → (d : Bool) → divides operator ≡ d → is_readable (entity_of here.scope operand) ≡ true → takes operator k ≡ true → Clean ((if d then Rattle.wc_model.specs.Language.Checks.asks 408 line (is_divisor operand) ∷ [] else []) ++ Rattle.wc_model.specs.Language.Checks.asks 402 line (suits_result here.scope operator operand (Some k)) ∷ []) → GoesWell (LeadsTo here.scope (Apply operator operand) following (Some k)) store (step_effect here line (Apply operator operand) (Some value) store)
apply_by here store fits line operator operand following k value a false d r t c =
    let v = operand_value here store fits operator operand k value a r c.0 in
    applied_goes here store line operator operand following k value v.0 v.1 (applied operator k t d value v.0 a v.2)
apply_by here store fits line operator operand following k value a true d r t c =
    let v = divided_at here store operator d value operand (subst (λ (x : Kind). takes operator x ≡ true) (sym a) t) c.0 in
    applied_goes here store line operator operand following k value v.0 v.1 (subst (λ (x : Kind). GivesAfter operator x (apply operator value v.0)) a v.2)

-- an operator with its operand
pub apply_goes : (here : Context) (store : Store) → FitsScope store here.instance here.scope → (line : ℕ) (operator : Operator) (operand : Term) (following : List BodyLine) (kind : Option Kind) (result : Option Value) → Agrees kind result → Clean (apply_checks here.scope line operator operand kind) → GoesWell (LeadsTo here.scope (Apply operator operand) following kind) store (step_effect here line (Apply operator operand) result store)
apply_goes here store fits line operator operand following None result a c = cc
apply_goes here store fits line operator operand following (Some k) None a c = absurd a
apply_goes here store fits line operator operand following (Some k) (Some value) a c = apply_by here store fits line operator operand following k value a (divides operator) refl c.1.0 c.1.1.1.0 c.1.1.1.1

-- NOT
pub not_goes : (here : Context) (store : Store) (line : ℕ) (following : List BodyLine) (kind : Option Kind) (result : Option Value) → Agrees kind result → Clean (truth_checks line kind) → GoesWell (LeadsTo here.scope Negate following kind) store (step_effect here line Negate result store)
not_goes here store line following kind result a c =
    let t = truth_known kind result c.1.0 a in
    subst (λ (k : Option Kind). GoesWell (LeadsTo here.scope Negate following k) store (step_effect here line Negate result store)) (sym t.1)
    (subst (λ (r : Option Value). GoesWell (LeadsTo here.scope Negate following (Some KindBool)) store (step_effect here line Negate r store)) (sym t.2) ((refl, refl), SameSlots-refl store))

-- a conditional whose result is a BOOL does one of two things
pub chosen_goes : (P : Mode → Type 0) (store : Store) (condition : Condition) (line : ℕ) (kind : Option Kind) (result : Option Value) (acting passing : Effect) → Agrees kind result → Clean (condition_checks condition line kind) → GoesWell P store acting → ((condition ≡ Always → ⊥) → GoesWell P store passing) → GoesWell P store (chosen (acts condition result) acting passing)
chosen_goes P store Always line kind result acting passing a c act pass = act
chosen_goes P store IfTrue line kind result acting passing a c act pass =
    let t = truth_known kind result c.1.0 a in
    let by : (b : Bool) → GoesWell P store (chosen (acts IfTrue (Some (Truth b))) acting passing) = elim [ true ↦ act | false ↦ pass (λ e. cc) ] in
    subst (λ (r : Option Value). GoesWell P store (chosen (acts IfTrue r) acting passing)) (sym t.2) (by t.0)
chosen_goes P store IfFalse line kind result acting passing a c act pass =
    let t = truth_known kind result c.1.0 a in
    let by : (b : Bool) → GoesWell P store (chosen (acts IfFalse (Some (Truth b))) acting passing) = elim [ true ↦ pass (λ e. cc) | false ↦ act ] in
    subst (λ (r : Option Value). GoesWell P store (chosen (acts IfFalse r) acting passing)) (sym t.2) (by t.0)

-- what does not always act does not always leave
pub may_pass : (condition : Condition) (label : Name) → (condition ≡ Always → ⊥) → step_leaves (Jump condition label) ≡ false
may_pass Always label n = absurd (n refl)
may_pass IfTrue label n = refl
may_pass IfFalse label n = refl

pub may_return : (condition : Condition) → (condition ≡ Always → ⊥) → step_leaves (Return condition) ≡ false
may_return Always n = absurd (n refl)
may_return IfTrue n = refl
may_return IfFalse n = refl

-- a jump
pub jump_goes : (here : Context) (store : Store) (line : ℕ) (condition : Condition) (label : Name) (following : List BodyLine) (kind : Option Kind) (result : Option Value) → Agrees kind result → is_ahead following label ≡ true → Clean (condition_checks condition line kind) → GoesWell (LeadsTo here.scope (Jump condition label) following kind) store (step_effect here line (Jump condition label) result store)
jump_goes here store line condition label following kind result a ahead c =
    chosen_goes (LeadsTo here.scope (Jump condition label) following kind) store condition line kind result (Goes (Seeking label result) store (At line ∷ [])) (Goes (Running result) store (At line ∷ [])) a c
    ((same_name-refl label, a, ahead), SameSlots-refl store) (λ n. ((a, may_pass condition label n), SameSlots-refl store))

-- a return
pub return_goes : (here : Context) (store : Store) (line : ℕ) (condition : Condition) (following : List BodyLine) (kind : Option Kind) (result : Option Value) → Agrees kind result → Clean (condition_checks condition line kind) → GoesWell (LeadsTo here.scope (Return condition) following kind) store (step_effect here line (Return condition) result store)
return_goes here store line condition following kind result a c =
    chosen_goes (LeadsTo here.scope (Return condition) following kind) store condition line kind result (Goes (Returned result) store (At line ∷ [])) (Goes (Running result) store (At line ∷ [])) a c
    (refl, SameSlots-refl store) (λ n. ((a, may_return condition n), SameSlots-refl store))
