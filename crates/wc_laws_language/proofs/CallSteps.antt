-- A call that breaks no rule goes well.
use Rattle.wc_model.proofs.Common.{◌≡◌, ℕ, Bool, true, false, not, ◌&&◌, ◌||◌, List, [], ◌∷◌, ◌++◌, map, Option, Some, None, Result, Ok, Err, append_assoc, refl, sym, ap, subst, ◌∙◌, inl, inr, ⊎_elim, if◌then◌else◌, is_some, flat_map}
use Rattle.wc_model.specs.Definitions.{is_readable, is_writable, is_of, is_bit_literal, input_named, output_named, formal_named, suits_input, suits_output, actual_checks, argument_checks, members_called, call_checks, condition_checks, is_instance, Variable, VariableType, Elementary, Standard, Block, Member, type_named, variable_named, members_of, member_named, block_named, named_in, elementary_types, standard_blocks, standard_type, block_type, BodyLine, is_kind, elementary_kind, term_kind, Outcome, Done, Stuck, Mode, Running, Goes, Fails, Context, value_of, input_kind, argument_term, assigned_input, assigned_one, assigned, given_one, given_out, written_to, call_trace, body_outcome, made, called_type, call_effect, step_effect, Name, Reason, NoSuchPlace, Scope, Entity, kind_of, type_of, entity_of, member_entity, is_input, is_result, Path, Content, Store, written, unit_places, variable_places, block_places, At, StandardBody, Called, Term, Field, Assignment, inputs_of, outputs_of, Call, ProgramUnit}
use Rattle.wc_model.specs.Language.Checks.{Position, positions_after, positions_of}
use Rattle.wc_model.specs.declared.block.StandardBlock.{StandardBlock}
use Rattle.wc_model.specs.declared.kind.Kind.{Kind}
use Rattle.wc_model.specs.declared.kind.Kind.TheVariants.{Bool as KindBool, Dint as KindDint, Time as KindTime}
use Rattle.wc_model.specs.declared.operator.Condition.{Condition}
use Rattle.wc_model.specs.declared.operator.Direction.{Direction}
use Rattle.wc_model.specs.declared.operator.Direction.TheVariants.{Into, OutOf}
use Rattle.wc_model.specs.declared.value.Value.{Value}
use Rattle.wc_laws_language.proofs.Entities.{GivesKind, Writes, term_read, term_written, writable_is_stored, field_typed, found_member_name, elementary-is}
use Rattle.wc_laws_language.proofs.Places.{SameSlots-refl, SameSlots-trans, FitsScope-same, Some-same, written-there, places_of, own_content, block_places-found}
use Rattle.wc_laws_language.proofs.StandardCalls.{standard-safe, block_held}
use Rattle.wc_laws_language.proofs.Steps.{clean_first, clean_second, some_of, is_of-sound, or-true, store_goes, alongside_truth, chosen_goes}
use Rattle.wc_laws_language.specs.{Clean, Agrees, GoesWell, EndsWell, LeadsTo, CallsEndWell, slot_of_kind, slot_at, SameSlots, content_at, FitsScope}

-- an instance of a unit: its variable, and its type
pub record IsInstance (scope : Scope) (name : Name) (type : VariableType) : Type 0 where
  pub variable : Variable
  pub found : variable_named scope.unit name ≡ Some variable
  pub typed : type_named scope.before variable.type_name ≡ Some type

pub type_of-found : (scope : Scope) (name : Name) (type : VariableType) → type_of scope name ≡ Some type → IsInstance scope name type
type_of-found scope name type e = go (variable_named scope.unit name) refl e
  where
    go : (v : Option Variable) → variable_named scope.unit name ≡ v → (elim v as (λ x. Option VariableType) [ Some w ↦ type_named scope.before w.type_name | None ↦ None ]) ≡ Some type → IsInstance scope name type
    go None f g = cc
    go (Some v) f g = record { variable = v; found = f; typed = g }

-- an input that is named
pub input_found : (members : List Member) (name : Name) (m : Member) → input_named members name ≡ Some m → (member_named members name ≡ Some m) × (input_kind members name ≡ Some m.type)
input_found members name m e = go (member_named members name) refl e
  where
    step : (n : Member) (b : Bool) → is_input n.section ≡ b → (if b then Some n else None) ≡ Some m → (Some n ≡ Some m) × ((if b then Some n.type else None) ≡ Some m.type)
    step n true s g = (g, ap (λ (o : Member). Some o.type) (sym (Some-same n m g)))
    step n false s g = cc

    go : (found : Option Member) → member_named members name ≡ found → (elim found [ Some n ↦ (if is_input n.section then Some n else None) | None ↦ None ]) ≡ Some m → (found ≡ Some m) × ((elim found as (λ x. Option VariableType) [ Some n ↦ (if is_input n.section then Some n.type else None) | None ↦ None ]) ≡ Some m.type)
    go None f g = cc
    go (Some n) f g = step n (is_input n.section) refl g

-- the value of an argument, of the input's kind
pub argument_value : (here : Context) (store : Store) → FitsScope store here.instance here.scope → (m : Member) (term : Term) → is_readable (entity_of here.scope term) ≡ true → suits_input here.scope (Some m) term ≡ true → (kind : Kind) × (m.type ≡ Elementary kind) × GivesKind kind (value_of here store (argument_term m.type term))
argument_value here store fits m term r s = go (elementary_kind m.type) refl s
  where
    plain : (kind : Kind) → (is_of (is_kind kind) (term_kind here.scope term) || (is_kind KindBool kind && is_bit_literal term)) ≡ true → GivesKind kind (value_of here store (argument_term (Elementary kind) term))
    plain KindBool t = alongside_truth here store fits term true r (⊎_elim (λ h. inl (is_of-sound KindBool (term_kind here.scope term) h)) (λ h. inr (refl, h)) (or-true (is_of (is_kind KindBool) (term_kind here.scope term)) (is_bit_literal term) t))
    plain KindDint t = ⊎_elim (λ h. term_read here store fits term KindDint (is_of-sound KindDint (term_kind here.scope term) h) r) (λ h. absurd (cc)) (or-true (is_of (is_kind KindDint) (term_kind here.scope term)) false t)
    plain KindTime t = ⊎_elim (λ h. term_read here store fits term KindTime (is_of-sound KindTime (term_kind here.scope term) h) r) (λ h. absurd (cc)) (or-true (is_of (is_kind KindTime) (term_kind here.scope term)) false t)

    go : (k : Option Kind) → elementary_kind m.type ≡ k → (elim k as (λ x. Bool) [ Some kind ↦ is_of (is_kind kind) (term_kind here.scope term) || (is_kind KindBool kind && is_bit_literal term) | None ↦ false ]) ≡ true → (kind : Kind) × (m.type ≡ Elementary kind) × GivesKind kind (value_of here store (argument_term m.type term))
    go None e t = cc
    go (Some kind) e t =
        let is = elementary-is m.type kind e in
        (kind, is, subst (λ (type : VariableType). GivesKind kind (value_of here store (argument_term type term))) (sym is) (plain kind t))

-- an input is assigned
pub argument_assigned : (here : Context) (store : Store) → FitsScope store here.instance here.scope → (instance : Name) (type : VariableType) → IsInstance here.scope instance type → (argument : Assignment) → is_some (input_named (members_of here.scope.before type) argument.formal) ≡ true → is_readable (entity_of here.scope argument.actual) ≡ true → suits_input here.scope (input_named (members_of here.scope.before type) argument.formal) argument.actual ≡ true → Writes store (assigned_one here store (members_of here.scope.before type) instance argument)
argument_assigned here store fits instance type is argument found r s =
    let m = some_of (input_named (members_of here.scope.before type) argument.formal) found in
    let both = input_found (members_of here.scope.before type) argument.formal m.0 m.1 in
    let v = argument_value here store fits m.0 argument.actual r (subst (λ (o : Option Member). suits_input here.scope o argument.actual ≡ true) m.1 s) in
    let place = field_typed store here.instance here.scope fits instance is.variable is.found type is.typed argument.formal m.0 both.0 v.0 v.1 in
    let named : m.0.name ≡ argument.formal = found_member_name (members_of here.scope.before type) argument.formal m.0 both.0 in
    let there : slot_at store (Path (here.instance ++ instance ∷ argument.formal ∷ [])) ≡ Some (slot_of_kind (kind_of v.2.0)) = ap (λ (n : Name). slot_at store (Path (here.instance ++ instance ∷ n ∷ []))) (sym named) ∙ (place ∙ ap (λ (k : Kind). Some (slot_of_kind k)) (sym v.2.2)) in
    let w = written-there store (Path (here.instance ++ instance ∷ argument.formal ∷ [])) v.2.0 there in
    subst (λ (o : Option VariableType). Writes store (elim o [ Some t ↦ assigned_input here store instance argument t | None ↦ Err NoSuchPlace ])) (sym both.1)
    (subst (λ (x : Result Value Reason). Writes store (elim x [ Ok value ↦ written store (Path (here.instance ++ instance ∷ argument.formal ∷ [])) value | Err reason ↦ Err reason ])) (sym v.2.1) w)

-- an output that is named
pub output_found : (members : List Member) (name : Name) (m : Member) → output_named members name ≡ Some m → (member_named members name ≡ Some m) × (is_result m.section ≡ true)
output_found members name m e = go (member_named members name) refl e
  where
    step : (n : Member) (b : Bool) → is_result n.section ≡ b → (if b then Some n else None) ≡ Some m → (Some n ≡ Some m) × (is_result m.section ≡ true)
    step n true s g = (g, ap (λ (o : Member). is_result o.section) (Some-same n m g) ∙ s)
    step n false s g = cc

    go : (found : Option Member) → member_named members name ≡ found → (elim found [ Some n ↦ (if is_result n.section then Some n else None) | None ↦ None ]) ≡ Some m → (found ≡ Some m) × (is_result m.section ≡ true)
    go None f g = cc
    go (Some n) f g = step n (is_result n.section) refl g

-- a field of an instance is the member of that name
pub field_found : (scope : Scope) (instance field : Name) (type : VariableType) (m : Member) → type_of scope instance ≡ Some type → member_named (members_of scope.before type) field ≡ Some m → entity_of scope (Field instance field) ≡ Some (member_entity instance m)
field_found scope instance field type m t e =
    ap (λ (o : Option VariableType). elim o as (λ x. Option Entity) [ Some known ↦ elim (member_named (members_of scope.before known) field) as (λ x. Option Entity) [ Some n ↦ Some (member_entity instance n) | None ↦ None ] | None ↦ None ]) t
    ∙ ap (λ (o : Option Member). elim o as (λ x. Option Entity) [ Some n ↦ Some (member_entity instance n) | None ↦ None ]) e

-- the kind of an output, which its target has
pub output_kind : (scope : Scope) (m : Member) (target : Term) → suits_output scope (Some m) target ≡ true → (kind : Kind) × (elementary_kind m.type ≡ Some kind) × (term_kind scope target ≡ Some kind)
output_kind scope m target s = go (elementary_kind m.type) refl s
  where
    go : (k : Option Kind) → elementary_kind m.type ≡ k → (elim k as (λ x. Bool) [ Some kind ↦ is_of (is_kind kind) (term_kind scope target) | None ↦ false ]) ≡ true → (kind : Kind) × (elementary_kind m.type ≡ Some kind) × (term_kind scope target ≡ Some kind)
    go None e t = cc
    go (Some kind) e t = (kind, e, is_of-sound kind (term_kind scope target) t)

-- an output is given out
pub output_given : (here : Context) (store : Store) → FitsScope store here.instance here.scope → (instance : Name) (type : VariableType) → type_of here.scope instance ≡ Some type → (output : Assignment) → is_some (output_named (members_of here.scope.before type) output.formal) ≡ true → is_some (entity_of here.scope output.actual) ≡ true → is_writable (entity_of here.scope output.actual) ≡ true → suits_output here.scope (output_named (members_of here.scope.before type) output.formal) output.actual ≡ true → Writes store (given_one here store instance output)
output_given here store fits instance type t output found known writable s =
    let m = some_of (output_named (members_of here.scope.before type) output.formal) found in
    let both = output_found (members_of here.scope.before type) output.formal m.0 m.1 in
    let field = field_found here.scope instance output.formal type m.0 t both.0 in
    let k = output_kind here.scope m.0 output.actual (subst (λ (o : Option Member). suits_output here.scope o output.actual ≡ true) m.1 s) in
    let v = term_read here store fits (Field instance output.formal) k.0 (ap (λ (e : Option Entity). elim e as (λ x. Option Kind) [ Some f ↦ elementary_kind f.type | None ↦ None ]) field ∙ k.1) (ap is_readable field ∙ both.1) in
    let w = term_written here store fits output.actual v.0 (k.2 ∙ ap Some (sym v.2)) writable (writable_is_stored here.scope output.actual known writable) in
    subst (λ (x : Result Value Reason). Writes store (elim x [ Ok value ↦ written_to here store output.actual value | Err reason ↦ Err reason ])) (sym v.1) w

-- one more is written before others
pub written_more : (here : Context) (store : Store) (one : Result Store Reason) (others : Store → Result Store Reason) → Writes store one → ((new : Store) → SameSlots store new → Writes new (others new)) → Writes store (elim one [ Ok new ↦ others new | Err reason ↦ Err reason ])
written_more here store one others w go =
    let more = go w.0 w.2 in (
      more.0,
      ap (λ (r : Result Store Reason). elim r as (λ x. Result Store Reason) [ Ok new ↦ others new | Err reason ↦ Err reason ]) w.1 ∙ more.1,
      SameSlots-trans store w.0 more.0 w.2 more.2,
    )

-- all inputs of a call's list are assigned, in order
pub inputs_assigned : (here : Context) (instance : Name) (type : VariableType) → IsInstance here.scope instance type → (line : ℕ) (before arguments : List Assignment) (store : Store) → FitsScope store here.instance here.scope → Clean (flat_map (argument_checks here.scope line (members_of here.scope.before type)) (positions_after before arguments)) → Writes store (assigned here (members_of here.scope.before type) instance (inputs_of arguments) store)
inputs_assigned here instance type is line before [] store fits c = (store, refl, SameSlots-refl store)
inputs_assigned here instance type is line before (argument ∷ arguments) store fits c =
    let members = members_of here.scope.before type in
    let this : Position Assignment = record { before = before; item = argument; following = arguments } in
    let first = clean_first (argument_checks here.scope line members this) (flat_map (argument_checks here.scope line members) (positions_after (argument ∷ before) arguments)) c in
    let rest = clean_second (argument_checks here.scope line members this) (flat_map (argument_checks here.scope line members) (positions_after (argument ∷ before) arguments)) c in
    step argument.direction first.0 first.1.1
    (λ new same. inputs_assigned here instance type is line (argument ∷ before) arguments new (FitsScope-same store new here.instance here.scope same fits) rest)
  where
    Others : Type 0
    Others = (new : Store) → SameSlots store new → Writes new (assigned here (members_of here.scope.before type) instance (inputs_of arguments) new)

    step : (way : Direction) → is_some (formal_named way (members_of here.scope.before type) argument.formal) ≡ true → Clean (actual_checks here.scope line way (formal_named way (members_of here.scope.before type) argument.formal) argument.actual) → Others → Writes store (assigned here (members_of here.scope.before type) instance (if (elim way [ Into ↦ true | OutOf ↦ false ]) then argument ∷ inputs_of arguments else inputs_of arguments) store)
    step Into named actual others =
        written_more here store (assigned_one here store (members_of here.scope.before type) instance argument) (assigned here (members_of here.scope.before type) instance (inputs_of arguments))
        (argument_assigned here store fits instance type is argument named actual.1.0 actual.1.1.0) others
    step OutOf named actual others = others store (SameSlots-refl store)

-- all outputs of a call's list are given out, in order
pub outputs_given : (here : Context) (instance : Name) (type : VariableType) → type_of here.scope instance ≡ Some type → (line : ℕ) (before arguments : List Assignment) (store : Store) → FitsScope store here.instance here.scope → Clean (flat_map (argument_checks here.scope line (members_of here.scope.before type)) (positions_after before arguments)) → Writes store (given_out here instance (outputs_of arguments) store)
outputs_given here instance type t line before [] store fits c = (store, refl, SameSlots-refl store)
outputs_given here instance type t line before (argument ∷ arguments) store fits c =
    let members = members_of here.scope.before type in
    let this : Position Assignment = record { before = before; item = argument; following = arguments } in
    let first = clean_first (argument_checks here.scope line members this) (flat_map (argument_checks here.scope line members) (positions_after (argument ∷ before) arguments)) c in
    let rest = clean_second (argument_checks here.scope line members this) (flat_map (argument_checks here.scope line members) (positions_after (argument ∷ before) arguments)) c in
    step argument.direction first.0 first.1.1
    (λ new same. outputs_given here instance type t line (argument ∷ before) arguments new (FitsScope-same store new here.instance here.scope same fits) rest)
  where
    Others : Type 0
    Others = (new : Store) → SameSlots store new → Writes new (given_out here instance (outputs_of arguments) new)

    step : (way : Direction) → is_some (formal_named way (members_of here.scope.before type) argument.formal) ≡ true → Clean (actual_checks here.scope line way (formal_named way (members_of here.scope.before type) argument.formal) argument.actual) → Others → Writes store (given_out here instance (if not (elim way [ Into ↦ true | OutOf ↦ false ]) then argument ∷ outputs_of arguments else outputs_of arguments) store)
    step Into named actual others = others store (SameSlots-refl store)
    step OutOf named actual others =
        written_more here store (given_one here store instance argument) (given_out here instance (outputs_of arguments))
        (output_given here store fits instance type t argument named actual.0 actual.1.0 actual.1.1.0) others

-- a type that is a block of the text is one that is there
pub block_known : (before : List ProgramUnit) (type_name name : Name) → type_named before type_name ≡ Some (Block name) → (found : ProgramUnit × List ProgramUnit) × (block_named before name ≡ Some found)
block_known before type_name name e = elementary (named_in elementary_types type_name) e
  where
    block : (b : Option (ProgramUnit × List ProgramUnit)) → block_named before type_name ≡ b → (elim b as (λ x. Option VariableType) [ Some f ↦ Some (Block type_name) | None ↦ None ]) ≡ Some (Block name) → (found : ProgramUnit × List ProgramUnit) × (block_named before name ≡ Some found)
    block None f g = cc
    block (Some found) f g = (found, subst (λ (n : Name). block_named before n ≡ Some found) (Block-name g) f)
      where
        Block-name : Some (Block type_name) ≡ Some (Block name) → type_name ≡ name
        Block-name h = cc

    standard : (s : Option StandardBlock) → (elim s as (λ x. Option VariableType) [ Some b ↦ Some (Standard b) | None ↦ block_type before type_name ]) ≡ Some (Block name) → (found : ProgramUnit × List ProgramUnit) × (block_named before name ≡ Some found)
    standard (Some b) g = cc
    standard None g = block (block_named before type_name) refl g

    elementary : (k : Option Kind) → (elim k as (λ x. Option VariableType) [ Some kind ↦ Some (Elementary kind) | None ↦ standard_type before type_name ]) ≡ Some (Block name) → (found : ProgramUnit × List ProgramUnit) × (block_named before name ≡ Some found)
    elementary (Some kind) g = cc
    elementary None g = standard (named_in standard_blocks type_name) g

-- the frame of an instance of a block of the text fits it
pub block_fits : (store : Store) (names : List Name) (scope : Scope) → FitsScope store names scope → (instance name : Name) → IsInstance scope instance (Block name) → (unit : ProgramUnit) (earlier : List ProgramUnit) → block_named scope.before name ≡ Some (unit, earlier) → FitsScope store (names ++ instance ∷ []) (record { before = earlier; unit = unit })
block_fits store names scope fits instance name is unit earlier b = record {
  own = λ path content e.
      let places : places_of scope.before is.variable ≡ unit_places earlier unit = ap (λ (t : Option VariableType). variable_places (block_places scope.before) t is.variable.initial) is.typed ∙ block_places-found scope.before name unit earlier b in
      let there : content_at (places_of scope.before is.variable) path ≡ Some content = ap (λ (ps : List (List Name × Content)). content_at ps path) places ∙ e in
      ap (λ (p : List Name). slot_at store (Path p)) (append_assoc names (instance ∷ []) path) ∙ fits.own (instance ∷ path) content (own_content scope.before scope.unit instance is.variable path content is.found there);
  direct = fits.direct;
}

-- the body of an instance ends well
pub body_ends : (here : Context) (store : Store) → FitsScope store here.instance here.scope → CallsEndWell here.scope.before here.calls → (type : VariableType) (instance : Name) → is_instance (Some type) ≡ true → IsInstance here.scope instance type → EndsWell (λ result. Unit {0}) store (body_outcome here type instance store)
body_ends here store fits calls (Elementary kind) instance i is = cc
body_ends here store fits calls (Standard block) instance i is =
    let w = standard-safe block here.now store (here.instance ++ instance ∷ []) (block_held store here.instance here.scope fits instance is.variable is.found block is.typed) in
    subst (λ (r : Result Store Reason). EndsWell (λ result. Unit {0}) store (elim r [ Ok new ↦ Done None new (StandardBody ∷ []) | Err reason ↦ Stuck reason ])) (sym w.1) (tt, w.2)
body_ends here store fits calls (Block name) instance i is =
    let known = block_known here.scope.before is.variable.type_name name is.typed in
    ended (here.calls name (here.instance ++ instance ∷ []) store) (calls name known.0.0 known.0.1 known.1 (here.instance ++ instance ∷ []) store (block_fits store here.instance here.scope fits instance name is known.0.0 known.0.1 known.1))
  where
    ended : (o : Outcome) → EndsWell (λ result. Unit {0}) store o → EndsWell (λ result. Unit {0}) store (elim o [ Done inner new trace ↦ Done None new (map Called trace) | Stuck reason ↦ Stuck reason ])
    ended (Done inner new trace) h = h
    ended (Stuck reason) h = h

-- the body of an instance whose inputs are assigned, and then its outputs
pub made_goes : (here : Context) (instance : Name) (P : Mode → Type 0) (old store : Store) → SameSlots old store → (o : Outcome) → EndsWell (λ result. Unit {0}) store o → (line : ℕ) (arguments : List Assignment) (result : Option Value) → P (Running result) → ((new : Store) → SameSlots store new → Writes new (given_out here instance (outputs_of arguments) new)) → GoesWell P old (made here instance o line arguments result)
made_goes here instance P old store same (Done inner new trace) h line arguments result p outputs =
    let w = outputs new h.1 in
    store_goes P old (given_out here instance (outputs_of arguments) new) (λ last. Goes (Running result) last (call_trace line arguments trace)) w.0 w.1
    (p, SameSlots-trans old new w.0 (SameSlots-trans old store new same h.1) w.2)
made_goes here instance P old store same (Stuck reason) h line arguments result p outputs = h

-- a call
pub call_goes : (here : Context) (store : Store) → FitsScope store here.instance here.scope → CallsEndWell here.scope.before here.calls → (line : ℕ) (condition : Condition) (instance : Name) (arguments : List Assignment) (following : List BodyLine) (kind : Option Kind) (result : Option Value) → Agrees kind result → Clean (call_checks here.scope line condition instance arguments kind) → GoesWell (LeadsTo here.scope (Call condition instance arguments) following kind) store (step_effect here line (Call condition instance arguments) result store)
call_goes here store fits calls line condition instance arguments following kind result a c =
    chosen_goes (LeadsTo here.scope (Call condition instance arguments) following kind) store condition line kind result (call_effect here line instance arguments result store) (Goes (Running result) store (At line ∷ [])) a conditions called (λ n. ((a, refl), SameSlots-refl store))
  where
    conditions : Clean (condition_checks condition line kind)
    conditions = clean_first (condition_checks condition line kind) (flat_map (argument_checks here.scope line (members_called here.scope (type_of here.scope instance))) (positions_of arguments)) c.1.1

    checks : Clean (flat_map (argument_checks here.scope line (members_called here.scope (type_of here.scope instance))) (positions_of arguments))
    checks = clean_second (condition_checks condition line kind) (flat_map (argument_checks here.scope line (members_called here.scope (type_of here.scope instance))) (positions_of arguments)) c.1.1

    typed : (t : Option VariableType) → type_of here.scope instance ≡ t → is_some t ≡ true → is_instance t ≡ true → Clean (flat_map (argument_checks here.scope line (members_called here.scope t)) (positions_of arguments)) → GoesWell (LeadsTo here.scope (Call condition instance arguments) following kind) store (elim t [ Some type ↦ called_type here type line instance arguments result store | None ↦ Fails NoSuchPlace ])
    typed None e s i r = cc
    typed (Some type) e s i r =
        let is = type_of-found here.scope instance type e in
        let w = inputs_assigned here instance type is line [] arguments store fits r in
        let outputs : (new : Store) → SameSlots w.0 new → Writes new (given_out here instance (outputs_of arguments) new)
        = λ new same. outputs_given here instance type e line [] arguments new (FitsScope-same store new here.instance here.scope (SameSlots-trans store w.0 new w.2 same) fits) r in
        store_goes (LeadsTo here.scope (Call condition instance arguments) following kind) store (assigned here (members_of here.scope.before type) instance (inputs_of arguments) store) (λ new. made here instance (body_outcome here type instance new) line arguments result) w.0 w.1
        (made_goes here instance (LeadsTo here.scope (Call condition instance arguments) following kind) store w.0 w.2 (body_outcome here type instance w.0) (body_ends here w.0 (FitsScope-same store w.0 here.instance here.scope w.2 fits) calls type instance i is) line arguments result (a, refl) outputs)

    called : GoesWell (LeadsTo here.scope (Call condition instance arguments) following kind) store (call_effect here line instance arguments result store)
    called = typed (type_of here.scope instance) refl c.0 c.1.0 checks
