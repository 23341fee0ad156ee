-- What is found of the arguments of a call.
use Rattle.wc_model.proofs.Common.{◌≡◌, ℕ, Bool, true, false, not, List, [], ◌∷◌, ◌++◌, Option, Some, None, Result, Ok, Err, length, append_assoc, refl, sym, ap, ◌∙◌, list_any-append, flat_map, list_any}
use Rattle.std.specs.Prelude.{◌||◌, option_and_then, option_map, is_some, OnOk}
use Rattle.wc_model.specs.Definitions.{actual_checks, argument_checks, condition_checks, formal_named, is_instance, is_of, members_called, suits_output, is_among, Member, VariableType, Elementary, Standard, Block, block_named, members_of, same_name, elementary_kind, is_kind, term_kind, Name, Scope, Assignment, ProgramUnit, Term}
use Rattle.wc_model.specs.Language.Checks.{Check, Position, asks, first_broken, positions_after, positions_of}
use Rattle.wc_model.specs.declared.kind.Kind.{Kind}
use Rattle.wc_model.specs.declared.operator.Condition.{Condition}
use Rattle.wc_names.specs.{number_within, numbered_formal, numbered_type, same_name_laws}
use Rattle.wc_names.specs.declared.declared_type.DeclaredType.{DeclaredType}
use Rattle.wc_names.specs.declared.declared_type.DeclaredType.TheVariants as numbered
use Rattle.wc_names.specs.declared.formal.FormalSlot.{FormalSlot}
use Rattle.wc_names.specs.declared.kept.Tables.{Tables}
use Rattle.wc_verify.specs.Seeing.{HoldsNames, is_numbered_instance, IsScope, Finds}

-- an input or output that is found is a member of its kind
pub record IsFormal (o : Option Member) (kind : Kind) : Type 0 where
  pub member : Member
  pub is : o ≡ Some member
  pub kind_is : elementary_kind member.type ≡ Some kind

kind_parts : (k : Option Kind) (w : Option ℕ) (formal : FormalSlot) → Some formal ≡ option_and_then (λ kind. option_map (λ n. record { kind = kind; place = n }) w) k → k ≡ Some formal.kind
kind_parts None w formal h = cc
kind_parts (Some kind) None formal h = cc
kind_parts (Some kind) (Some n) formal h = ap (λ o. option_map (λ (i : FormalSlot). i.kind) o) (sym h)

pub formal_parts : (scope : Scope) (type : VariableType) (o : Option Member) (formal : FormalSlot) → Some formal ≡ option_and_then (numbered_formal scope.before type) o → IsFormal o formal.kind
formal_parts scope type None formal h = absurd (cc)
formal_parts scope type (Some m) formal h = record { member = m; is = refl; kind_is = kind_parts (elementary_kind m.type) (number_within scope.before type (m.name ∷ [])) formal h }

-- whether a target suits an output of this kind
pub output_suits : (scope : Scope) (m : Member) (term : Term) (kind : Kind) (seen : Option Kind) → elementary_kind m.type ≡ Some kind → term_kind scope term ≡ seen → suits_output scope (Some m) term ≡ is_of (is_kind kind) seen
output_suits scope m term kind seen e k =
    ap (λ (o : Option Kind). elim o as (λ x. Bool) [ Some kind ↦ is_of (is_kind kind) (term_kind scope term) | None ↦ false ]) e ∙ ap (is_of (is_kind kind)) k

-- the rules of one of a call's list whose input or output there is, and which is not named before
pub argument_found : (scope : Scope) (members : List Member) (position : Position Assignment) (kind : Kind) (r : Option ℕ) → IsFormal (formal_named position.item.direction members position.item.formal) kind →
    list_any (λ a. same_name a.formal position.item.formal) position.before ≡ false →
    ((m : Member) → elementary_kind m.type ≡ Some kind → Finds (λ line. actual_checks scope line position.item.direction (Some m) position.item.actual) r) → Finds (λ line. argument_checks scope line members position) r
argument_found scope members position kind r formal new found line rest =
    (λ i. first_broken (asks 409 line (is_some (formal.is i)) ∷ asks 410 line (not (new i)) ∷ actual_checks scope line position.item.direction (formal.is i) position.item.actual ++ rest))
    ∙ found formal.member formal.kind_is line rest

or_last : (a b : Bool) → (a || (b || false)) ≡ (b || a)
or_last true true = refl
or_last true false = refl
or_last false true = refl
or_last false false = refl

-- one more name
pub one_more : (names : List Name) (before : List Assignment) (a : Assignment) → HoldsNames names before → HoldsNames (names ++ a.formal ∷ []) (a ∷ before)
one_more names before a held = λ name.
    list_any-append (same_name name) names (a.formal ∷ []) ∙ or_last (is_among names name) (same_name name a.formal) ∙ (λ i. same_name_laws.symm name a.formal i || held name i)

-- what follows the arguments so far, newest first
pub record ArgumentsAfter (tables : Tables) (unit : ℕ) (declared : DeclaredType) (line : ℕ) (names : List Name) (all left : List Assignment) : Type 0 where
  pub before : List Assignment
  pub held : HoldsNames names before
  pub found : (scope : Scope) (type : VariableType) (rest : List Check) → IsScope tables unit scope → numbered_type scope.before type ≡ Some declared →
      first_broken (flat_map (argument_checks scope line (members_of scope.before type)) (positions_after [] all) ++ rest) ≡ first_broken (flat_map (argument_checks scope line (members_of scope.before type)) (positions_after before left) ++ rest)

pub at_first : (tables : Tables) (unit : ℕ) (declared : DeclaredType) (line : ℕ) (all : List Assignment) → ArgumentsAfter tables unit declared line [] all all
at_first tables unit declared line all = record { before = []; held = λ name. refl; found = λ scope type rest is num. refl }

pub one_after : (tables : Tables) (unit : ℕ) (declared : DeclaredType) (line : ℕ) (names new : List Name) (all : List Assignment) (a : Assignment) (left : List Assignment) →
    (h : ArgumentsAfter tables unit declared line names all (a ∷ left)) →
    ((scope : Scope) (type : VariableType) (before following : List Assignment) (rest : List Check) → IsScope tables unit scope → numbered_type scope.before type ≡ Some declared → HoldsNames names before →
    first_broken (argument_checks scope line (members_of scope.before type) (record { before = before; item = a; following = following }) ++ rest) ≡ first_broken rest) →
    ((before : List Assignment) → HoldsNames names before → HoldsNames new (a ∷ before)) → ArgumentsAfter tables unit declared line new all left
one_after tables unit declared line names new all a left h passes holds = record {
  before = a ∷ h.before;
  held = holds h.before h.held;
  found = λ scope type rest is num.
      let checks = argument_checks scope line (members_of scope.before type) in
      h.found scope type rest is num
      ∙ ap first_broken (append_assoc (checks (record { before = h.before; item = a; following = left })) (flat_map checks (positions_after (a ∷ h.before) left)) rest)
      ∙ passes scope type h.before left (flat_map checks (positions_after (a ∷ h.before) left) ++ rest) is num h.held;
}

-- a fact of what is fine either way
pub on_ok : {X : Type 0} {E : Type 0} (r : Result X E) (P : Type 0) → P → OnOk r P
on_ok (Ok x) P p = p
on_ok (Err e) P p = tt

not_new : (b new : Bool) → new ≡ not b → new ≡ true → b ≡ false
not_new true new e t = cc
not_new false new e t = refl

-- a name that is new among those kept is assigned by none before
pub is_new : (names : List Name) (before : List Assignment) (name : Name) → HoldsNames names before → (new : Bool) → new ≡ not (is_among names name) → new ≡ true → list_any (λ a. same_name a.formal name) before ≡ false
is_new names before name held new e t = sym (held name) ∙ not_new (is_among names name) new e t

-- the type of an instance, or of another variable, from its number
pub record IsTyped (scope : Scope) (o : Option VariableType) (declared : DeclaredType) : Type 0 where
  pub type : VariableType
  pub is : o ≡ Some type
  pub numbered : numbered_type scope.before type ≡ Some declared
  pub instance : is_instance (Some type) ≡ is_numbered_instance declared

abbrev instance_if_any : Option DeclaredType → Bool
instance_if_any None = true
instance_if_any (Some declared) = is_numbered_instance declared

block_instance : (found : Option (ProgramUnit × List ProgramUnit)) (declared : DeclaredType) → Some declared ≡ option_map (λ found. numbered.Block (length found.1)) found → true ≡ is_numbered_instance declared
block_instance None declared h = absurd (cc)
block_instance (Some found) declared h = ap instance_if_any (sym h)

pub type_parts : (scope : Scope) (o : Option VariableType) (declared : DeclaredType) → Some declared ≡ option_and_then (numbered_type scope.before) o → IsTyped scope o declared
type_parts scope None declared h = absurd (cc)
type_parts scope (Some (Elementary kind)) declared h = record { type = Elementary kind; is = refl; numbered = sym h; instance = ap instance_if_any (sym h) }
type_parts scope (Some (Standard block)) declared h = record { type = Standard block; is = refl; numbered = sym h; instance = ap instance_if_any (sym h) }
type_parts scope (Some (Block name)) declared h = record { type = Block name; is = refl; numbered = sym h; instance = block_instance (block_named scope.before name) declared h }

-- the rules of a call, whose instance's type is this
abbrev pub checks_called : Scope → ℕ → Condition → Option VariableType → List Assignment → Option Kind → List Check
checks_called scope line condition o arguments kind =
    asks 401 line (is_some o) ∷ asks 402 line (is_instance o) ∷ condition_checks condition line kind ++ flat_map (argument_checks scope line (members_called scope o)) (positions_of arguments)

-- what is called is not an instance
pub no_instance_found : (scope : Scope) (line : ℕ) (condition : Condition) (o : Option VariableType) (arguments : List Assignment) (kind : Option Kind) (rest : List Check) (declared : DeclaredType) →
    IsTyped scope o declared → is_numbered_instance declared ≡ false → first_broken (checks_called scope line condition o arguments kind ++ rest) ≡ Some (record { number = 402; line = line })
no_instance_found scope line condition o arguments kind rest declared typed none =
    (λ i. first_broken (checks_called scope line condition (typed.is i) arguments kind ++ rest))
    ∙ ap (λ b. first_broken (asks 402 line b ∷ (condition_checks condition line kind ++ flat_map (argument_checks scope line (members_called scope (Some typed.type))) (positions_of arguments)) ++ rest)) (typed.instance ∙ none)

-- an instance is called
pub instance_found : (scope : Scope) (line : ℕ) (condition : Condition) (o : Option VariableType) (arguments : List Assignment) (kind : Option Kind) (rest : List Check) (declared : DeclaredType) →
    (typed : IsTyped scope o declared) → is_numbered_instance declared ≡ true → first_broken (checks_called scope line condition o arguments kind ++ rest)
    ≡ first_broken (condition_checks condition line kind ++ (flat_map (argument_checks scope line (members_of scope.before typed.type)) (positions_of arguments) ++ rest))
instance_found scope line condition o arguments kind rest declared typed some =
    (λ i. first_broken (checks_called scope line condition (typed.is i) arguments kind ++ rest))
    ∙ ap (λ b. first_broken (asks 402 line b ∷ (condition_checks condition line kind ++ flat_map (argument_checks scope line (members_of scope.before typed.type)) (positions_of arguments)) ++ rest)) (typed.instance ∙ some)
    ∙ ap first_broken (append_assoc (condition_checks condition line kind) (flat_map (argument_checks scope line (members_of scope.before typed.type)) (positions_of arguments)) rest)
