-- Where names lead in the other text, step by step alongside the one that is gone through.
use Rattle.wc_model.proofs.Common.{◌≡◌, Bool, true, false, ◌&&◌, List, [], ◌∷◌, map, length, Option, Some, None, option_map, refl, sym, ap, subst, ◌∙◌, if◌then◌else◌, option_and_then, and_self, and-true, list_all-map, list_all, list_any}
use Rattle.wc_model.specs.Definitions.{Lead, ToPlace, ToField, lead_by, lead_from, same_block, same_lead, Variable, VariableType, Elementary, Standard, Block, block_named, type_named, variable_named, Name, Scope, type_of, Content, standard_fields, ProgramUnit}
use Rattle.wc_model.specs.declared.block.StandardBlock.{StandardBlock}
use Rattle.wc_model.specs.declared.block.StandardBlock.TheVariants.{RTrig}
use Rattle.wc_model.specs.declared.kind.Kind.{Kind}
use Rattle.wc_names.specs.Numbered.{numbered_type}
use Rattle.wc_names.specs.declared.declared_type.DeclaredType.TheVariants as numbered
use Rattle.wc_laws_language.proofs.Carrying.{at_once, is_field, one_block}
use Rattle.wc_view_changes.specs.{has_shape, Plain, Instance, numbered_side, side_lead}

-- what a name and those after it lead to, by the type of the name
pub lead_is : (name : Name) (names : List Name) (scope : Scope) → lead_from (name ∷ names) scope.before scope.unit ≡ lead_by (lead_from names) scope.before (type_of scope name) names
lead_is name names scope = by (variable_named scope.unit name)
  where
    by : (o : Option Variable) → (elim o as (λ x. Option Lead) [ Some v ↦ lead_by (lead_from names) scope.before (type_named scope.before v.type_name) names | None ↦ None ])
        ≡ lead_by (lead_from names) scope.before (elim o as (λ x. Option VariableType) [ Some v ↦ type_named scope.before v.type_name | None ↦ None ]) names
    by None = refl
    by (Some v) = refl

-- straight from a block of the text no field is led to
pub never_field : (field : Name) (before : List ProgramUnit) (unit : ProgramUnit) (block : StandardBlock) → lead_from (field ∷ []) before unit ≡ Some (ToField block) → ⊥
never_field field before unit block e = at_once before (variable_named unit field) block e

pub not_field : (lead : Option Lead) (block : StandardBlock) → ((b : StandardBlock) → lead ≡ Some (ToField b) → ⊥) → (same_lead lead (Some (ToField block)) ≡ false) × (same_lead (Some (ToField block)) lead ≡ false)
not_field None block never = (refl, refl)
not_field (Some (ToPlace kind)) block never = (refl, refl)
not_field (Some (ToField b)) block never = absurd (never b refl)

-- the other lead of one name is that of a place of the kind exactly if the type is the kind
plain_old : (before : List ProgramUnit) (type : Option VariableType) (kind : Kind) (content : Content) → same_lead (lead_by (lead_from []) before type []) (Some (ToPlace kind)) ≡ has_shape (option_and_then (numbered_type before) type) (Plain kind content)
plain_old before (Some (Block name)) kind content = by (block_named before name)
  where
    by : (o : Option (ProgramUnit × List ProgramUnit)) → same_lead (elim o as (λ x. Option Lead) [ Some found ↦ lead_from [] found.1 found.0 | None ↦ None ]) (Some (ToPlace kind))
        ≡ has_shape (option_map (λ found. numbered.Block (length found.1)) o) (Plain kind content)
    by None = refl
    by (Some found) = refl
plain_old before type kind content = refl

pub plain_kept : (side : Option Scope) (scope : Scope) (name : Name) (kind : Kind) (content : Content) → type_of scope name ≡ Some (Elementary kind) →
    same_lead (side_lead side (name ∷ [])) (lead_from (name ∷ []) scope.before scope.unit) ≡ has_shape (numbered_side side name) (Plain kind content)
plain_kept side scope name kind content typed = ap (same_lead (side_lead side (name ∷ []))) (lead_is name [] scope ∙ ap (λ t. lead_by (lead_from []) scope.before t []) typed) ∙ by side
  where
    by : (s : Option Scope) → same_lead (side_lead s (name ∷ [])) (Some (ToPlace kind)) ≡ has_shape (numbered_side s name) (Plain kind content)
    by None = refl
    by (Some old) = ap (λ l. same_lead l (Some (ToPlace kind))) (lead_is name [] old) ∙ plain_old old.before (type_of old name) kind content

-- a field of another block is not one of this one's
field_old : (b block : StandardBlock) (field : Name) → is_field block field ≡ true → (t : Bool) → is_field b field ≡ t → (s : Bool) → same_block b block ≡ s → same_lead (if t then Some (ToField b) else None) (Some (ToField block)) ≡ s
field_old b block field is true e s f = f
field_old b block field is false e true f = let same = one_block b block f in absurd (let x : is_field block field ≡ false = subst (λ c. is_field c field ≡ false) same e in let y : false ≡ true = sym x ∙ is in cc)
field_old b block field is false e false f = refl

-- the other lead of a field of an instance is that of a field of the same block exactly if the type is the block
standard_old : (before : List ProgramUnit) (type : Option VariableType) (block : StandardBlock) (field : Name) → is_field block field ≡ true → same_lead (lead_by (lead_from (field ∷ [])) before type (field ∷ [])) (Some (ToField block)) ≡ has_shape (option_and_then (numbered_type before) type) (Instance block)
standard_old before (Some (Standard b)) block field is = field_old b block field is (is_field b field) refl (same_block b block) refl
standard_old before (Some (Block name)) block field is = by (block_named before name)
  where
    by : (o : Option (ProgramUnit × List ProgramUnit)) → same_lead (elim o as (λ x. Option Lead) [ Some found ↦ lead_from (field ∷ []) found.1 found.0 | None ↦ None ]) (Some (ToField block))
        ≡ has_shape (option_map (λ found. numbered.Block (length found.1)) o) (Instance block)
    by None = refl
    by (Some found) = (not_field (lead_from (field ∷ []) found.1 found.0) block (λ b. never_field field found.1 found.0 b)).0
standard_old before type block field is = refl

field_kept : (side : Option Scope) (scope : Scope) (name : Name) (block : StandardBlock) (field : Name) → type_of scope name ≡ Some (Standard block) → is_field block field ≡ true →
    same_lead (side_lead side (name ∷ field ∷ [])) (lead_from (name ∷ field ∷ []) scope.before scope.unit) ≡ has_shape (numbered_side side name) (Instance block)
field_kept side scope name block field typed is =
    ap (same_lead (side_lead side (name ∷ field ∷ []))) (lead_is name (field ∷ []) scope ∙ ap (λ t. lead_by (lead_from (field ∷ [])) scope.before t (field ∷ [])) typed ∙ ap (λ b. if b then Some (ToField block) else None) is) ∙ by side
  where
    by : (s : Option Scope) → same_lead (side_lead s (name ∷ field ∷ [])) (Some (ToField block)) ≡ has_shape (numbered_side s name) (Instance block)
    by None = refl
    by (Some old) = ap (λ l. same_lead l (Some (ToField block))) (lead_is name (field ∷ []) old) ∙ standard_old old.before (type_of old name) block field is

-- a test that answers alike for each of a block's own fields
alike : {X : Type 0} (p good : X → Bool) (t : Bool) → ((x : X) → good x ≡ true → p x ≡ t) → (x : X) (xs : List X) → list_all good (x ∷ xs) ≡ true → list_all p (x ∷ xs) ≡ t
alike p good t h x [] g = and-true (p x) ∙ h x (sym (and-true (good x)) ∙ g)
alike {X} p good t h x (y ∷ xs) g = by (good x) refl g (alike p good t h y xs)
  where
    by : (b : Bool) → good x ≡ b → (b && list_all good (y ∷ xs)) ≡ true → (list_all good (y ∷ xs) ≡ true → list_all p (y ∷ xs) ≡ t) → (p x && list_all p (y ∷ xs)) ≡ t
    by true is g rest = (λ i. h x is i && rest g i) ∙ and_self t
    by false is g rest = cc

some_alike : {X : Type 0} (p good : X → Bool) (t : Bool) → ((x : X) → good x ≡ true → p x ≡ t) → (xs : List X) → list_any good xs ≡ true → list_all good xs ≡ true → list_all p xs ≡ t
some_alike p good t h [] some g = cc
some_alike p good t h (x ∷ xs) some g = alike p good t h x xs g

fields_alike : (p : Name × Content → Bool) (t : Bool) (block : StandardBlock) → ((f : Name × Content) → is_field block f.0 ≡ true → p f ≡ t) → list_all p (standard_fields block) ≡ t
fields_alike p t RTrig h = some_alike p (λ f. is_field RTrig f.0) t h (standard_fields RTrig) refl refl
fields_alike p t other h = some_alike p (λ f. is_field other f.0) t h (standard_fields other) refl refl

pub standard_kept : (side : Option Scope) (scope : Scope) (name : Name) (block : StandardBlock) → type_of scope name ≡ Some (Standard block) →
    list_all (λ path. same_lead (side_lead side path) (lead_from path scope.before scope.unit)) (map (λ (f : Name × Content). name ∷ f.0 ∷ []) (standard_fields block)) ≡ has_shape (numbered_side side name) (Instance block)
standard_kept side scope name block typed =
    list_all-map (λ path. same_lead (side_lead side path) (lead_from path scope.before scope.unit)) (λ (f : Name × Content). name ∷ f.0 ∷ []) (standard_fields block)
    ∙ fields_alike (λ (f : Name × Content). same_lead (side_lead side (name ∷ f.0 ∷ [])) (lead_from (name ∷ f.0 ∷ []) scope.before scope.unit)) (has_shape (numbered_side side name) (Instance block)) block
    (λ f is. field_kept side scope name block f.0 typed is)
