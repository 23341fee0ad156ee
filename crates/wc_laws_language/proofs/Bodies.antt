-- A body that breaks no rule ends well.
use Rattle.wc_model.proofs.Common.{◌≡◌, ℕ, Bool, true, false, not, ◌||◌, List, [], ◌∷◌, ◌++◌, Option, Some, None, Result, Ok, Err, refl, sym, ap, subst, ◌∙◌, inl, inr, ⊎_elim, if◌then◌else◌, list_all}
use Rattle.wc_model.specs.Definitions.{takes, divides, is_ahead, step_rules, opening_operand_checks, is_no_instance, opening_checks, closing_checks, inside_rules, result_checks, Check, asks, same_result, term_kind, kind_after_operator, kind_after_step, BodyLine, PlainLine, label_of, kind_after, leaves, jumps_to, Known, kinds_from_jumps, kinds_from_label, kinds_from_above, edges_in, agreed, known_kinds, kind_at, opening_kind, kind_following, Outcome, Done, Stuck, Mode, Running, Seeking, Returned, Effect, Goes, Fails, Context, arriving, carries, after, continued, step_effect, closed, opened, nested_effect, means, Name, apply, Reason, Scope, kind_of, Store, At}
use Rattle.wc_model.specs.Language.Tree.{Word, Term, Step, Load, Store as StoreStep, Apply, Negate, Jump, Call, Return, Lines, End, Alone, Plain, Nested}
use Rattle.wc_model.specs.declared.kind.Kind.{Kind}
use Rattle.wc_model.specs.declared.operator.Operator.{Operator}
use Rattle.wc_model.specs.declared.operator.StoreKind.TheVariants.{Result as StoreResult, Negation, Set, Reset}
use Rattle.wc_model.specs.declared.value.Value.{Value}
use Rattle.wc_laws_language.proofs.Applying.{applied}
use Rattle.wc_laws_language.proofs.CallSteps.{call_goes}
use Rattle.wc_laws_language.proofs.Entities.{term_read}
use Rattle.wc_laws_language.proofs.Places.{SameSlots-refl, SameSlots-trans, FitsScope-same}
use Rattle.wc_laws_language.proofs.Steps.{clean_first, clean_second, some_of, is_kind-sound, value_goes, load_goes, store_result_goes, store_truth_goes, apply_goes, not_goes, jump_goes, return_goes}
use Rattle.wc_laws_language.proofs.Tests.{both-true, same_name-sound}
use Rattle.wc_laws_language.specs.{Clean, Agrees, GoesWell, EndsWell, step_jumps_to, step_returns, LeadsTo, IsAmong, ModeFits, ArrivedFits, InsideMode, CallsEndWell, is_simple, IsSimple, SameSlots, FitsScope}

-- each step
pub step_goes : (here : Context) (store : Store) → FitsScope store here.instance here.scope → CallsEndWell here.scope.before here.calls → (line : ℕ) (step : Step) (following : List BodyLine) (kind : Option Kind) (result : Option Value) → Agrees kind result → Clean (step_rules here.scope line step following kind) → GoesWell (LeadsTo here.scope step following kind) store (step_effect here line step result store)
step_goes here store fits calls line (Load negation operand) following kind result a c = load_goes here store fits line negation operand following kind result c
step_goes here store fits calls line (StoreStep StoreResult target) following kind result a c = store_result_goes here store fits line target following kind result a c
step_goes here store fits calls line (StoreStep Negation target) following kind result a c = store_truth_goes here store fits line Negation target following kind result c.1.1.1.0 a c
step_goes here store fits calls line (StoreStep Set target) following kind result a c = store_truth_goes here store fits line Set target following kind result c.1.1.1.0 a c
step_goes here store fits calls line (StoreStep Reset target) following kind result a c = store_truth_goes here store fits line Reset target following kind result c.1.1.1.0 a c
step_goes here store fits calls line (Apply operator operand) following kind result a c = apply_goes here store fits line operator operand following kind result a c
step_goes here store fits calls line Negate following kind result a c = not_goes here store line following kind result a c
step_goes here store fits calls line (Jump condition label) following kind result a c = jump_goes here store line condition label following kind result a c.0 c.1
step_goes here store fits calls line (Call condition instance arguments) following kind result a c = call_goes here store fits calls line condition instance arguments following kind result a c
step_goes here store fits calls line (Return condition) following kind result a c = return_goes here store line condition following kind result a c

-- a simple step is neither a jump nor a return
pub simple_no_jump : (step : Step) (label : Name) → is_simple step ≡ true → step_jumps_to step label ≡ true → ⊥
simple_no_jump (Load negated operand) label s j = cc
simple_no_jump other label s j = cc

pub simple_no_return : (step : Step) → is_simple step ≡ true → step_returns step ≡ true → ⊥
simple_no_return (Load negated operand) s j = cc
simple_no_return other s j = cc

-- a simple step goes to the next line
pub simple_stays : (scope : Scope) (step : Step) (following : List BodyLine) (kind : Option Kind) (store : Store) (e : Effect) → is_simple step ≡ true → GoesWell (LeadsTo scope step following kind) store e → GoesWell (InsideMode (kind_after_step scope step kind)) store e
simple_stays scope step following kind store (Fails reason) s h = h
simple_stays scope step following kind store (Goes (Running result) new items) s h = (h.0.0, h.1)
simple_stays scope step following kind store (Goes (Seeking label result) new items) s h = absurd (simple_no_jump step label s h.0.0)
simple_stays scope step following kind store (Goes (Returned result) new items) s h = absurd (simple_no_return step s h.0)

-- an effect that goes well, and then what ends well
pub continued_ends : (P : Mode → Type 0) (Q : Option Value → Type 0) (store : Store) (e : Effect) (go : Mode → Store → Outcome) → GoesWell P store e → ((mode : Mode) (new : Store) → P mode → SameSlots store new → EndsWell Q new (go mode new)) → EndsWell Q store (continued e go)
continued_ends P Q store (Fails reason) go h rest = h
continued_ends P Q store (Goes mode new items) go h rest = then_ends (go mode new) (rest mode new h.0 h.1)
  where
    then_ends : (o : Outcome) → EndsWell Q new o → EndsWell Q store (after items o)
    then_ends (Done result last trace) k = (k.0, SameSlots-trans store new last h.1 k.1)
    then_ends (Stuck reason) k = k

-- kinds that pass the test are the same
pub same_result-sound : (a b : Option Kind) → same_result a b ≡ true → a ≡ b
same_result-sound None None e = refl
same_result-sound (Some a) (Some b) e = ap Some (is_kind-sound a b e)
same_result-sound None (Some b) e = cc
same_result-sound (Some a) None e = cc

-- at a `)`
pub closed_goes : (line close : ℕ) (operator : Operator) (k : Kind) (outer : Value) (inner_kind : Option Kind) (store : Store) (o : Outcome) → takes operator k ≡ true → divides operator ≡ false → kind_of outer ≡ k → inner_kind ≡ Some k → EndsWell (Agrees inner_kind) store o → GoesWell (InsideMode (kind_after_operator operator (Some k))) store (closed line operator close outer o)
closed_goes line close operator k outer inner_kind store (Stuck reason) t d a same h = h
closed_goes line close operator k outer inner_kind store (Done None new trace) t d a same h = absurd (subst (λ (x : Option Kind). Agrees x None) same h.0)
closed_goes line close operator k outer inner_kind store (Done (Some value) new trace) t d a same h =
    let g = applied operator k t d outer value a (subst (λ (x : Option Kind). Agrees x (Some value)) same h.0) in
    value_goes (InsideMode (kind_after_operator operator (Some k))) store (apply operator outer value) (λ result. Goes (Running (Some result)) new (At line ∷ trace ++ At close ∷ [])) g.0 g.1 (subst (λ (x : Option Kind). Agrees x (Some g.0)) g.2 refl, h.1)

-- the lines inside start with the operand, or with no result
pub opened_ends : (here : Context) (store : Store) → FitsScope store here.instance here.scope → (line : ℕ) (operand : Option Term) (inside : Mode → Store → Outcome) (Q : Option Value → Type 0) → Clean (opening_operand_checks here.scope line operand) → is_no_instance here.scope operand ≡ true → ((result : Option Value) → Agrees (opening_kind here.scope operand) result → EndsWell Q store (inside (Running result) store)) → EndsWell Q store (opened here operand store inside)
opened_ends here store fits line None inside Q c n h = h None tt
opened_ends here store fits line (Some operand) inside Q c n h =
    let k = some_of (term_kind here.scope operand) n in
    let v = term_read here store fits operand k.0 k.1 c.1.0 in
    subst (λ (r : Result Value Reason). EndsWell Q store (elim r [ Ok value ↦ inside (Running (Some value)) store | Err reason ↦ Stuck reason ])) (sym v.1) (h (Some v.0) (subst (λ (x : Option Kind). Agrees x (Some v.0)) (sym k.1) v.2))

-- a parenthesis, if the lines inside end well
pub nested_goes : (here : Context) (store : Store) → FitsScope store here.instance here.scope → (line close : ℕ) (operator : Operator) (operand : Option Term) (inside : Mode → Store → Outcome) (inner_kind : Option Kind) (kind : Option Kind) (result : Option Value) → Agrees kind result → Clean (opening_checks here.scope line operator operand kind) → Clean (closing_checks close kind inner_kind) → ((start : Option Value) → Agrees (opening_kind here.scope operand) start → EndsWell (Agrees inner_kind) store (inside (Running start) store)) → GoesWell (InsideMode (kind_after_operator operator kind)) store (nested_effect here line operator operand close inside (Running result) store)
nested_goes here store fits line close operator operand inside inner_kind kind result a c d h = by_kind kind result a reads validated d
  where
    reads : Clean (opening_operand_checks here.scope line operand)
    reads = clean_first (opening_operand_checks here.scope line operand) (result_checks operator line kind) (clean_first (opening_operand_checks here.scope line operand ++ result_checks operator line kind) (asks 408 line (not (divides operator)) ∷ asks 402 line (is_no_instance here.scope operand) ∷ []) (regroup c))
      where
        regroup : Clean (opening_checks here.scope line operator operand kind) → Clean ((opening_operand_checks here.scope line operand ++ result_checks operator line kind) ++ (asks 408 line (not (divides operator)) ∷ asks 402 line (is_no_instance here.scope operand) ∷ []))
        regroup x = x

    validated : Clean (result_checks operator line kind) × Clean (asks 408 line (not (divides operator)) ∷ asks 402 line (is_no_instance here.scope operand) ∷ [])
    validated = (clean_second (opening_operand_checks here.scope line operand) (result_checks operator line kind) (clean_first (opening_operand_checks here.scope line operand ++ result_checks operator line kind) (asks 408 line (not (divides operator)) ∷ asks 402 line (is_no_instance here.scope operand) ∷ []) c), clean_second (opening_operand_checks here.scope line operand ++ result_checks operator line kind) (asks 408 line (not (divides operator)) ∷ asks 402 line (is_no_instance here.scope operand) ∷ []) c)

    not-true : (b : Bool) → not b ≡ true → b ≡ false
    not-true true e = cc
    not-true false e = refl

    by_kind : (k : Option Kind) (r : Option Value) → Agrees k r → Clean (opening_operand_checks here.scope line operand) → Clean (result_checks operator line k) × Clean (asks 408 line (not (divides operator)) ∷ asks 402 line (is_no_instance here.scope operand) ∷ []) → Clean (closing_checks close k inner_kind) → GoesWell (InsideMode (kind_after_operator operator k)) store (nested_effect here line operator operand close inside (Running r) store)
    by_kind None r a reads validated d = cc
    by_kind (Some k) None a reads validated d = absurd a
    by_kind (Some k) (Some value) a reads validated d =
        closed_goes line close operator k value inner_kind store (opened here operand store inside) validated.0.1.0 (not-true (divides operator) validated.1.0) a (sym (same_result-sound (Some k) inner_kind d.1.0))
        (opened_ends here store fits line operand inside (Agrees inner_kind) reads validated.1.1.0 h)

-- inside a parenthesis it goes on with the next line
pub inside_onward : (k : Option Kind) (Q : Option Value → Type 0) (store : Store) (go : Mode → Store → Outcome) → ((result : Option Value) (new : Store) → Agrees k result → SameSlots store new → EndsWell Q new (go (Running result) new)) → (mode : Mode) (new : Store) → InsideMode k mode → SameSlots store new → EndsWell Q new (go mode new)
inside_onward k Q store go h (Running result) new m same = h result new m same
inside_onward k Q store go h (Seeking label result) new m same = absurd m
inside_onward k Q store go h (Returned result) new m same = absurd m

-- the rules of an opening line, of the lines inside, of the `)`, and of the rest
pub nested_parts : (a b c d : List Check) → Clean (((a ++ b) ++ c) ++ d) → Clean a × Clean b × Clean c × Clean d
nested_parts a b c d h =
    let abc = clean_first ((a ++ b) ++ c) d h in
    let ab = clean_first (a ++ b) c abc in
    (clean_first a b ab, clean_second a b ab, clean_second (a ++ b) c abc, clean_second ((a ++ b) ++ c) d h)

-- the lines inside a parenthesis end well
pub inside_ends : (here : Context) → CallsEndWell here.scope.before here.calls → (lines : Lines) (kind : Option Kind) (result : Option Value) (store : Store) → FitsScope store here.instance here.scope → IsSimple lines → Clean (inside_rules here.scope lines kind) → Agrees kind result → EndsWell (Agrees (kind_following here.scope lines kind)) store (means here lines (Running result) store)
inside_ends here calls End kind result store fits simple c a = (a, SameSlots-refl store)
inside_ends here calls (Alone word rest) kind result store fits simple c a = inside_ends here calls rest kind result store fits simple c a
inside_ends here calls (Plain label line step rest) kind result store fits simple c a =
    let k = kind_after_step here.scope step kind in
    let Q = Agrees (kind_following here.scope rest k) in
    let rules = clean_second (step_rules here.scope line step [] kind) (inside_rules here.scope rest k) c in
    continued_ends (InsideMode k) Q store (step_effect here line step result store) (means here rest)
    (simple_stays here.scope step [] kind store (step_effect here line step result store) simple.0
    (step_goes here store fits calls line step [] kind result a (clean_first (step_rules here.scope line step [] kind) (inside_rules here.scope rest k) c)))
    (inside_onward k Q store (means here rest) (λ r new ag same. inside_ends here calls rest k r new (FitsScope-same store new here.instance here.scope same fits) simple.1 rules ag))
inside_ends here calls (Nested label line operator operand inside close rest) kind result store fits simple c a =
    let k = kind_after_operator operator kind in
    let Q = Agrees (kind_following here.scope rest k) in
    let inner = kind_following here.scope inside (opening_kind here.scope operand) in
    let parts = nested_parts (opening_checks here.scope line operator operand kind) (inside_rules here.scope inside (opening_kind here.scope operand)) (closing_checks close kind inner) (inside_rules here.scope rest k) c in
    continued_ends (InsideMode k) Q store (nested_effect here line operator operand close (means here inside) (Running result) store) (means here rest)
    (nested_goes here store fits line close operator operand (means here inside) inner kind result a parts.0 parts.2 (λ start ag. inside_ends here calls inside (opening_kind here.scope operand) start store fits simple.0 parts.1 ag))
    (inside_onward k Q store (means here rest) (λ r new ag same. inside_ends here calls rest k r new (FitsScope-same store new here.instance here.scope same fits) simple.1 parts.3 ag))

-- the kind on which all incoming paths agree is that of each
pub all-same : (k : Option Kind) (edges : List (Option Kind)) (way : Option Kind) → list_all (same_result k) edges ≡ true → IsAmong way edges → k ≡ way
all-same k [] way e m = absurd m
all-same k (w ∷ edges) way e m =
    let both = both-true (same_result k w) (list_all (same_result k) edges) e in
    ⊎_elim (λ h. same_result-sound k w both.0 ∙ h) (λ h. all-same k edges way both.1 h) m

pub agreed-agrees : (edges : List (Option Kind)) (way : Option Kind) (result : Option Value) → IsAmong way edges → Agrees way result → Agrees (agreed edges) result
agreed-agrees [] way result m a = absurd m
agreed-agrees (w ∷ edges) way result m a =
    let step : (b : Bool) → list_all (same_result w) edges ≡ b → Agrees (if b then w else None) result =
    elim [
      | true ↦ λ e. ⊎_elim (λ h. subst (λ (k : Option Kind). Agrees k result) (sym h) a) (λ h. subst (λ (k : Option Kind). Agrees k result) (sym (all-same w edges way e h)) a) m
      | false ↦ λ e. tt
    ]
    in
    step (list_all (same_result w) edges) refl

pub among_first : (k : Option Kind) (xs ys : List (Option Kind)) → IsAmong k xs → IsAmong k (xs ++ ys)
among_first k [] ys m = absurd m
among_first k (x ∷ xs) ys m = ⊎_elim (λ h. inl h) (λ h. inr (among_first k xs ys h)) m

pub among_second : (k : Option Kind) (xs ys : List (Option Kind)) → IsAmong k ys → IsAmong k (xs ++ ys)
among_second k [] ys m = m
among_second k (x ∷ xs) ys m = inr (among_second k xs ys m)

-- the kinds that jumps bring to a line with this label
pub from_label : (word : Option Word) (label : Name) (earlier : List Known) (k : Option Kind) → carries word label ≡ true → IsAmong k (kinds_from_jumps label earlier) → IsAmong k (kinds_from_label word earlier)
from_label None label earlier k c m = cc
from_label (Some word) label earlier k c m = subst (λ (n : Name). IsAmong k (kinds_from_jumps n earlier)) (sym (same_name-sound word.name label c)) m

-- a run arrives at a line
pub arrives : (scope : Scope) (before : List BodyLine) (line : BodyLine) (following : List BodyLine) (mode : Mode) → ModeFits scope (known_kinds scope before) (line ∷ following) mode → ArrivedFits scope (known_kinds scope before) line following (kind_at scope before line) (arriving (label_of line) mode)
arrives scope before line following (Running result) m = agreed-agrees (edges_in scope (known_kinds scope before) line) m.0 result (among_first m.0 (kinds_from_above scope (known_kinds scope before)) (kinds_from_label (label_of line) (known_kinds scope before)) (subst (λ (ks : List (Option Kind)). IsAmong m.0 ks) (sym m.1) (inl refl))) m.2
arrives scope before line following (Returned result) m = tt
arrives scope before line following (Seeking label result) m = go (carries (label_of line) label) refl m.3
  where
    go : (b : Bool) → carries (label_of line) label ≡ b → (b || is_ahead following label) ≡ true → ArrivedFits scope (known_kinds scope before) line following (kind_at scope before line) (if b then Running result else Seeking label result)
    go true c e = agreed-agrees (edges_in scope (known_kinds scope before) line) m.0 result (among_second m.0 (kinds_from_above scope (known_kinds scope before)) (kinds_from_label (label_of line) (known_kinds scope before)) (from_label (label_of line) label (known_kinds scope before) m.0 c m.1)) m.2
    go false c e = (m.0, m.1, m.2, e, c)

-- a run that looks for a label passes over a line that does not carry it
pub passes_over : (scope : Scope) (earlier : List Known) (line : BodyLine) (following : List BodyLine) (kind : Option Kind) (label : Name) (result : Option Value) → ArrivedFits scope earlier line following kind (Seeking label result) → ModeFits scope (record { line = line; before = kind } ∷ earlier) following (Seeking label result)
passes_over scope earlier line following kind label result m =
    (m.0, among_second m.0 (if jumps_to line label then kind ∷ [] else []) (if carries (label_of line) label then [] else kinds_from_jumps label earlier) (subst (λ b. IsAmong m.0 (if b then [] else kinds_from_jumps label earlier)) (sym m.4) m.1), m.2, m.3)

-- a line that does not leave hands its result on
pub hands_on : (scope : Scope) (earlier : List Known) (line : BodyLine) (following : List BodyLine) (kind : Option Kind) (result : Option Value) → leaves line ≡ false → Agrees (kind_after scope line kind) result → ModeFits scope (record { line = line; before = kind } ∷ earlier) following (Running result)
hands_on scope earlier line following kind result l a = (kind_after scope line kind, ap (λ b. if b then [] else kind_after scope line kind ∷ []) l, a)

-- a jump brings its kind
pub jump_line : (label : Option Word) (line : ℕ) (step : Step) (name : Name) → step_jumps_to step name ≡ true → jumps_to (PlainLine label line step) name ≡ true
jump_line label line (Load negated operand) name j = cc
jump_line label line (StoreStep storing target) name j = cc
jump_line label line (Apply operator operand) name j = cc
jump_line label line Negate name j = cc
jump_line label line (Jump condition target) name j = j
jump_line label line (Call condition instance arguments) name j = cc
jump_line label line (Return condition) name j = cc

-- where a step leads fits the next line
pub led_fits : (scope : Scope) (earlier : List Known) (label : Option Word) (line : ℕ) (step : Step) (following : List BodyLine) (kind : Option Kind) (mode : Mode) → LeadsTo scope step following kind mode → ModeFits scope (record { line = PlainLine label line step; before = kind } ∷ earlier) following mode
led_fits scope earlier label line step following kind (Running result) h = hands_on scope earlier (PlainLine label line step) following kind result h.1 h.0
led_fits scope earlier label line step following kind (Returned result) h = tt
led_fits scope earlier label line step following kind (Seeking name result) h =
    (kind, among_first kind (if jumps_to (PlainLine label line step) name then kind ∷ [] else []) (if carries label name then [] else kinds_from_jumps name earlier) (subst (λ b. IsAmong kind (if b then kind ∷ [] else [])) (sym (jump_line label line step name h.0)) (inl refl)), h.1, h.2)
