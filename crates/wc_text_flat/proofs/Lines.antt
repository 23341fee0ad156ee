-- Flat lines follow the steps that they represent: loads, stores, operators, NOT.
use Rattle.std.proofs.Common.{◌≡◌, ℕ, zero, suc, ◌+◌, Bool, true, false, List, [], ◌∷◌, Option, Some, None, Result, Ok, Err, ℤ, pos, negsuc, ◌-ℤ◌, refl, ap, ◌∙◌}
use Rattle.std.specs.Option.{option_map}
use Rattle.std.specs.Prelude.{slice_get, slice_set, if◌then◌else◌}
use Rattle.wc_text_flat.proofs.PlaceNumbers.{write_both}
use Rattle.wc_text_flat.proofs.Sides.{Sides, flat, AreAlike, state_of, LineFollows}
use Rattle.wc_text_flat.proofs.Values.{value_number, ReadsAs, apply_number_follows, negated_number_follows}
use Rattle.wc_text_flat.specs.{AreContents, State, LineResult, goes_on, with_result, with_all, is_named, kind_at, may_hold, number_held, overwrites, writes, loads, applies, line_runs, Operand, Number, At, IsPlaceOf, IsOperand, load_line, apply_line, given, negated_number, apply_number}
use Rattle.wc_model.specs.Definitions.{content_number, place_number, slot_kind_of, slot_kinds, Goes, Running, as_truth, takes_truth, alongside, value_of, written_to, from_value, from_store, next, store_effect, step_effect, apply, negated, Reason, NoSuchPlace, WrongKind, Scope, readable_place, writable_place, within, At as AtLine}
use Rattle.wc_model.specs.Language.Meaning as meaning
use Rattle.wc_model.specs.Language.Store.{Location, Content, Plain, Moment, Phase, Store, with_content, value_at, same_kind, written}
use Rattle.wc_model.specs.Language.Tree.{Term, Constant, Address, Variable as NameOf, Field, Load, Store as StoreStep, Apply, Negate}
use Rattle.wc_model.specs.declared.code.Code.{Code}
use Rattle.wc_model.specs.declared.code.Code.TheVariants.{Store as StoreLine, Not}
use Rattle.wc_model.specs.declared.kind.SlotKind.{SlotKind}
use Rattle.wc_model.specs.declared.operator.Operator.{Operator}
use Rattle.wc_model.specs.declared.operator.StoreKind.{StoreKind}
use Rattle.wc_model.specs.declared.operator.StoreKind.TheVariants.{Result as StoreResult, Negation, Set, Reset}
use Rattle.wc_model.specs.declared.place.Place.{Place}
use Rattle.wc_model.specs.declared.value.Value.{Value}
use Rattle.wc_model.specs.declared.value.Value.TheVariants.{Bool as Truth, Dint, Time}

-- the number of an operand
abbrev pub operand_number : Sides → List ℤ → Operand → Option ℤ
operand_number w numbers (Number n) = Some n
operand_number w numbers (At place) = number_held (flat w) numbers place

-- a place that holds a value is named
pub value_held : (value : Value) (kind : Option SlotKind) → kind ≡ Some (slot_kind_of (Plain value)) → (number : Option ℤ) → given kind (λ k. if is_named k then number else None) ≡ number
value_held (Truth b) kind e number = ap (λ (x : Option SlotKind). given x (λ k. if is_named k then number else None)) e
value_held (Dint n) kind e number = ap (λ (x : Option SlotKind). given x (λ k. if is_named k then number else None)) e
value_held (Time t) kind e number = ap (λ (x : Option SlotKind). given x (λ k. if is_named k then number else None)) e

-- and its number is read there
pub held_follows : (content : Option Content) (kind : Option SlotKind) → kind ≡ option_map slot_kind_of content → (number : Option ℤ) → number ≡ option_map content_number content → ReadsAs (elim content as (λ x. Result Value Reason) [ Some c ↦ elim c [ Plain value ↦ Ok value | Moment m ↦ Err NoSuchPlace | Phase p ↦ Err NoSuchPlace ] | None ↦ Err NoSuchPlace ]) (given kind (λ k. if is_named k then number else None))
held_follows (Some (Plain value)) kind k number e = value_held value kind k number ∙ e
held_follows (Some (Moment m)) kind k number e = tt
held_follows (Some (Phase p)) kind k number e = tt
held_follows None kind k number e = tt

-- what is at a place of the instance
pub place_read : (w : Sides) → AreAlike w → (store : Store) (numbers : List ℤ) → AreContents w.frame store numbers → (found : Option Location) (place : Place) → IsPlaceOf w.here.scope found place → ReadsAs (elim found as (λ x. Result Value Reason) [ Some p ↦ value_at store (within w.here.instance p) | None ↦ Err NoSuchPlace ]) (number_held (flat w) numbers place)
place_read w alike store numbers contents None place is = absurd is
place_read w alike store numbers contents (Some location) place is =
    held_follows (store (within w.here.instance location)) (kind_at (flat w) place) (contents.kinds (within w.here.instance location) (w.base + place.0) (alike.based location place.0 is))
    (slice_get numbers (w.base + place.0)) (contents.each (within w.here.instance location) (w.base + place.0) (alike.based location place.0 is))

-- what is stored
pub stored_read : (w : Sides) → AreAlike w → (store : Store) (numbers : List ℤ) → AreContents w.frame store numbers → (term : Term) (operand : Operand) → Rattle.wc_text_flat.specs.Lowered.IsStored w.here.scope term operand → ReadsAs (meaning.stored_value w.here store term) (operand_number w numbers operand)
stored_read w alike store numbers contents term (Number n) is = absurd is
stored_read w alike store numbers contents term (At place) is = place_read w alike store numbers contents (readable_place w.here.scope term) place is

-- an operand's value is its number
pub operand_read : (w : Sides) → AreAlike w → (store : Store) (numbers : List ℤ) → AreContents w.frame store numbers → (term : Term) (operand : Operand) → IsOperand w.here.scope term operand → ReadsAs (value_of w.here store term) (operand_number w numbers operand)
operand_read w alike store numbers contents (Constant value) operand is = ap (operand_number w numbers) is
operand_read w alike store numbers contents (Address word) operand is = stored_read w alike store numbers contents (Address word) operand is
operand_read w alike store numbers contents (NameOf name) operand is = stored_read w alike store numbers contents (NameOf name) operand is
operand_read w alike store numbers contents (Field instance field) operand is = stored_read w alike store numbers contents (Field instance field) operand is

-- a literal 0 or 1 has its number as a BOOL too
pub truth_operand : (scope : Scope) (term : Term) (operand : Operand) → IsOperand scope term operand → IsOperand scope (as_truth term) operand
truth_operand scope (Constant (Dint (pos zero))) operand is = is
truth_operand scope (Constant (Dint (pos (suc zero)))) operand is = is
truth_operand scope (Constant (Dint (pos (suc (suc n))))) operand is = is
truth_operand scope (Constant (Dint (negsuc n))) operand is = is
truth_operand scope (Constant (Truth b)) operand is = is
truth_operand scope (Constant (Time t)) operand is = is
truth_operand scope (Address word) operand is = is
truth_operand scope (NameOf name) operand is = is
truth_operand scope (Field instance field) operand is = is

pub alongside_operand : (scope : Scope) (operator : Operator) (a : Value) (term : Term) (operand : Operand) → IsOperand scope term operand → IsOperand scope (alongside operator a term) operand
alongside_operand scope operator (Truth b) term operand is = step (takes_truth operator)
  where
    step : (t : Bool) → IsOperand scope (if t then as_truth term else term) operand
    step true = truth_operand scope term operand is
    step false = is
alongside_operand scope operator (Dint n) term operand is = is
alongside_operand scope operator (Time t) term operand is = is

-- on to the next line with a value
pub next_follows : (w : Sides) (line : Code) (put_by : List ℤ) (number : ℕ) (store : Store) (numbers : List ℤ) → AreContents w.frame store numbers → (result : Option Value) (r : Result Value Reason) (o : Option ℤ) → ReadsAs r o → line_runs (flat w) (state_of result put_by numbers) line ≡ given o (λ n. goes_on (with_result (state_of result put_by numbers) n)) → LineFollows w line put_by (state_of result put_by numbers) (from_value r (next number store))
next_follows w line put_by number store numbers contents result (Ok value) o e runs_so =
    (numbers, contents, refl, runs_so ∙ ap (λ x. given x (λ n. goes_on (with_result (state_of result put_by numbers) n))) e)
next_follows w line put_by number store numbers contents result (Err reason) o e runs_so = tt

-- LD
pub load_follows : (w : Sides) → AreAlike w → (put_by : List ℤ) (number : ℕ) (store : Store) (numbers : List ℤ) → AreContents w.frame store numbers → (result : Option Value) (term : Term) (operand : Operand) → IsOperand w.here.scope term operand → LineFollows w (load_line false operand) put_by (state_of result put_by numbers) (step_effect w.here number (Load false term) result store)
load_follows w alike put_by number store numbers contents result term operand is =
    next_follows w (load_line false operand) put_by number store numbers contents result (value_of w.here store term) (operand_number w numbers operand) (operand_read w alike store numbers contents term operand is) (line operand)
  where
    line : (o : Operand) → line_runs (flat w) (state_of result put_by numbers) (load_line false o) ≡ given (operand_number w numbers o) (λ n. goes_on (with_result (state_of result put_by numbers) n))
    line (Number n) = refl
    line (At place) = refl

-- the negation of a literal is lowered
pub negation_lowered : (b : Bool) → pos 1 -ℤ value_number (Truth b) ≡ value_number (Truth (Rattle.std.specs.Prelude.not b))
negation_lowered true = refl
negation_lowered false = refl

-- LDN
pub load_negated_follows : (w : Sides) → AreAlike w → (put_by : List ℤ) (number : ℕ) (store : Store) (numbers : List ℤ) → AreContents w.frame store numbers → (result : Option Value) (term : Term) (operand : Operand) → IsOperand w.here.scope term operand → LineFollows w (load_line true operand) put_by (state_of result put_by numbers) (step_effect w.here number (Load true term) result store)
load_negated_follows w alike put_by number store numbers contents result term operand is = step operand (value_of w.here store term) (operand_read w alike store numbers contents term operand is)
  where
    literal : (n : ℤ) (value : Value) → Some n ≡ Some (value_number value) → LineFollows w (load_line true (Number n)) put_by (state_of result put_by numbers) (from_value (negated value) (next number store))
    literal n (Truth b) e = let same : n ≡ value_number (Truth b) = cc in (numbers, contents, refl, ap (λ m. goes_on (with_result (state_of result put_by numbers) (pos 1 -ℤ m))) same ∙ ap (λ m. goes_on (with_result (state_of result put_by numbers) m)) (negation_lowered b))
    literal n (Dint m) e = tt
    literal n (Time t) e = tt

    step : (o : Operand) (r : Result Value Reason) → ReadsAs r (operand_number w numbers o) → LineFollows w (load_line true o) put_by (state_of result put_by numbers) (from_value r (λ value. from_value (negated value) (next number store)))
    step o (Err reason) e = tt
    step (Number n) (Ok value) e = literal n value e
    step (At place) (Ok value) e =
        next_follows w (load_line true (At place)) put_by number store numbers contents result (negated value) (negated_number (value_number value)) (negated_number_follows value)
        (ap (λ x. given x (λ n. loads (state_of result put_by numbers) true n)) e)

-- an operator with its operand
pub apply_follows : (w : Sides) → AreAlike w → (put_by : List ℤ) (number : ℕ) (store : Store) (numbers : List ℤ) → AreContents w.frame store numbers → (result : Option Value) (operator : Operator) (term : Term) (operand : Operand) → IsOperand w.here.scope term operand → LineFollows w (apply_line operator operand) put_by (state_of result put_by numbers) (step_effect w.here number (Apply operator term) result store)
apply_follows w alike put_by number store numbers contents None operator term operand is = tt
apply_follows w alike put_by number store numbers contents (Some a) operator term operand is = step (value_of w.here store (alongside operator a term)) (operand_read w alike store numbers contents (alongside operator a term) operand (alongside_operand w.here.scope operator a term operand is))
  where
    line : (o : Operand) → line_runs (flat w) (state_of (Some a) put_by numbers) (apply_line operator o) ≡ given (operand_number w numbers o) (λ n. applies (state_of (Some a) put_by numbers) operator n)
    line (Number n) = refl
    line (At place) = refl

    step : (r : Result Value Reason) → ReadsAs r (operand_number w numbers operand) → LineFollows w (apply_line operator operand) put_by (state_of (Some a) put_by numbers) (from_value r (λ b. from_value (apply operator a b) (next number store)))
    step (Err reason) e = tt
    step (Ok b) e =
        next_follows w (apply_line operator operand) put_by number store numbers contents (Some a) (apply operator a b) (apply_number operator (value_number a) (value_number b)) (apply_number_follows operator a b)
        (line operand ∙ ap (λ x. given x (λ n. applies (state_of (Some a) put_by numbers) operator n)) e)

-- NOT
pub not_follows : (w : Sides) (put_by : List ℤ) (number : ℕ) (store : Store) (numbers : List ℤ) → AreContents w.frame store numbers → (result : Option Value) → LineFollows w Not put_by (state_of result put_by numbers) (step_effect w.here number Negate result store)
not_follows w put_by number store numbers contents None = tt
not_follows w put_by number store numbers contents (Some value) =
    next_follows w Not put_by number store numbers contents (Some value) (negated value) (negated_number (value_number value)) (negated_number_follows value) refl

-- if a store is written, its numbers are
abbrev pub WritesAs : Sides → State → Result Store Reason → Option LineResult → Type 0
WritesAs w state (Ok new) o = (numbers : List ℤ) × AreContents w.frame new numbers × (o ≡ goes_on (with_all state numbers))
WritesAs w state (Err reason) o = Unit {0}

-- a value of the same kind may be held if another is
pub may_replace : (old value : Value) → same_kind old value ≡ true → (slot_kind_of (Plain old) ≡ slot_kind_of (Plain value)) × (may_hold (slot_kind_of (Plain value)) (value_number value) ≡ true)
may_replace (Truth a) (Truth true) e = (refl, refl)
may_replace (Truth a) (Truth false) e = (refl, refl)
may_replace (Dint a) (Dint b) e = (refl, refl)
may_replace (Time a) (Time b) e = (refl, refl)
may_replace (Truth a) (Dint b) e = cc
may_replace (Dint a) (Truth b) e = cc
may_replace (Time a) (Truth b) e = cc
may_replace other third e = cc

pub write_follows : (w : Sides) → (store : Store) (numbers : List ℤ) → AreContents w.frame store numbers → (state : State) → state.numbers ≡ numbers → (location : Location) (place : Place) → place_number w.frame location ≡ Some (w.base + place.0) → (value : Value) → WritesAs w state (written store location value) (writes (flat w) state place (value_number value))
write_follows w store numbers contents state same location place is value = step (store location) refl
  where
    k : ℕ
    k = w.base + place.0

    there : (c : Option Content) → store location ≡ c → slice_get state.numbers k ≡ option_map content_number c
    there c e = ap (λ (ns : List ℤ). slice_get ns k) same ∙ (contents.each location k is ∙ ap (λ (x : Option Content). option_map content_number x) e)

    kind_there : (c : Option Content) → store location ≡ c → slice_get (slot_kinds w.frame) k ≡ option_map slot_kind_of c
    kind_there c e = contents.kinds location k is ∙ ap (λ (x : Option Content). option_map slot_kind_of x) e

    overwritten : (old : Value) → slice_get state.numbers k ≡ Some (value_number old) → overwrites (flat w) state place (value_number value) ≡ goes_on (with_all state (slice_set numbers k (value_number value)))
    overwritten old e =
        ap (λ (x : Option ℤ). given x (λ o. goes_on (with_all state (slice_set state.numbers k (value_number value))))) e ∙ ap (λ (ns : List ℤ). goes_on (with_all state (slice_set ns k (value_number value)))) same

    kinds : (old : Value) → slice_get state.numbers k ≡ Some (value_number old) → slice_get (slot_kinds w.frame) k ≡ Some (slot_kind_of (Plain old)) → (b : Bool) → same_kind old value ≡ b → WritesAs w state (if b then Ok (with_content store location (Plain value)) else Err WrongKind) (writes (flat w) state place (value_number value))
    kinds old e kind true alike =
        let may = may_replace old value alike in
        let here : slice_get (slot_kinds w.frame) k ≡ Some (slot_kind_of (Plain value)) = kind ∙ ap Some may.0 in (
          slice_set numbers k (value_number value),
          write_both w.frame store numbers contents location k is (Plain value) here,
          ap (λ (x : Option SlotKind). given x (λ s. if may_hold s (value_number value) then overwrites (flat w) state place (value_number value) else None)) here
              ∙ (ap (λ (b : Bool). if b then overwrites (flat w) state place (value_number value) else None) may.1 ∙ overwritten old e),
        )
    kinds old e kind false alike = tt

    step : (c : Option Content) → store location ≡ c → WritesAs w state (elim (elim c as (λ x. Result Value Reason) [ Some d ↦ elim d [ Plain v ↦ Ok v | Moment m ↦ Err NoSuchPlace | Phase p ↦ Err NoSuchPlace ] | None ↦ Err NoSuchPlace ]) as (λ x. Result Store Reason) [ Ok old ↦ (if same_kind old value then Ok (with_content store location (Plain value)) else Err WrongKind) | Err reason ↦ Err reason ]) (writes (flat w) state place (value_number value))
    step (Some (Plain old)) e = kinds old (there (Some (Plain old)) e) (kind_there (Some (Plain old)) e) (same_kind old value) refl
    step (Some (Moment m)) e = tt
    step (Some (Phase p)) e = tt
    step None e = tt

-- at a place of the instance
pub target_follows : (w : Sides) → AreAlike w → (store : Store) (numbers : List ℤ) → AreContents w.frame store numbers → (state : State) → state.numbers ≡ numbers → (found : Option Location) (place : Place) → IsPlaceOf w.here.scope found place → (value : Value) → WritesAs w state (elim found as (λ x. Result Store Reason) [ Some p ↦ written store (within w.here.instance p) value | None ↦ Err NoSuchPlace ]) (writes (flat w) state place (value_number value))
target_follows w alike store numbers contents state same None place is value = absurd is
target_follows w alike store numbers contents state same (Some location) place is value =
    write_follows w store numbers contents state same (within w.here.instance location) place (alike.based location place.0 is) value

-- ST, STN, S, R
pub stored_follows : (w : Sides) (line : Code) (put_by : List ℤ) (number : ℕ) (numbers : List ℤ) (result : Value) (r : Result Store Reason) (o : Option LineResult) → WritesAs w (state_of (Some result) put_by numbers) r o → line_runs (flat w) (state_of (Some result) put_by numbers) line ≡ o → LineFollows w line put_by (state_of (Some result) put_by numbers) (from_store r (λ new. Goes (Running (Some result)) new (AtLine number ∷ [])))
stored_follows w line put_by number numbers result (Ok new) o h e = (h.0, h.1, refl, e ∙ h.2)
stored_follows w line put_by number numbers result (Err reason) o h e = tt

pub store_follows : (w : Sides) → AreAlike w → (put_by : List ℤ) (number : ℕ) (store : Store) (numbers : List ℤ) → AreContents w.frame store numbers → (result : Option Value) (storing : StoreKind) (target : Term) (place : Place) → IsPlaceOf w.here.scope (writable_place w.here.scope target) place → LineFollows w (StoreLine storing place) put_by (state_of result put_by numbers) (step_effect w.here number (StoreStep storing target) result store)
store_follows w alike put_by number store numbers contents None storing target place is = tt
store_follows w alike put_by number store numbers contents (Some result) storing target place is = by_storing storing result
  where
    writing : (result value : Value) → WritesAs w (state_of (Some result) put_by numbers) (written_to w.here store target value) (writes (flat w) (state_of (Some result) put_by numbers) place (value_number value))
    writing result value = target_follows w alike store numbers contents (state_of (Some result) put_by numbers) refl (writable_place w.here.scope target) place is value

    by_storing : (s : StoreKind) (r : Value) → LineFollows w (StoreLine s place) put_by (state_of (Some r) put_by numbers) (store_effect w.here number store s target r)
    by_storing StoreResult r = stored_follows w (StoreLine StoreResult place) put_by number numbers r (written_to w.here store target r) (writes (flat w) (state_of (Some r) put_by numbers) place (value_number r)) (writing r r) refl
    by_storing Negation (Truth true) = stored_follows w (StoreLine Negation place) put_by number numbers (Truth true) (written_to w.here store target (Truth false)) (writes (flat w) (state_of (Some (Truth true)) put_by numbers) place (pos 0)) (writing (Truth true) (Truth false)) refl
    by_storing Negation (Truth false) = stored_follows w (StoreLine Negation place) put_by number numbers (Truth false) (written_to w.here store target (Truth true)) (writes (flat w) (state_of (Some (Truth false)) put_by numbers) place (pos 1)) (writing (Truth false) (Truth true)) refl
    by_storing Negation (Dint n) = tt
    by_storing Negation (Time t) = tt
    by_storing Set (Truth true) = stored_follows w (StoreLine Set place) put_by number numbers (Truth true) (written_to w.here store target (Truth true)) (writes (flat w) (state_of (Some (Truth true)) put_by numbers) place (pos 1)) (writing (Truth true) (Truth true)) refl
    by_storing Set (Truth false) = (numbers, contents, refl, refl)
    by_storing Set (Dint n) = tt
    by_storing Set (Time t) = tt
    by_storing Reset (Truth true) = stored_follows w (StoreLine Reset place) put_by number numbers (Truth true) (written_to w.here store target (Truth false)) (writes (flat w) (state_of (Some (Truth true)) put_by numbers) place (pos 0)) (writing (Truth true) (Truth false)) refl
    by_storing Reset (Truth false) = (numbers, contents, refl, refl)
    by_storing Reset (Dint n) = tt
    by_storing Reset (Time t) = tt
