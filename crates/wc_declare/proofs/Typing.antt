-- What the rules on a declaration's type and value ask, by the type's number.
use Rattle.std.proofs.Common.{◌≡◌, Bool, true, false, List, [], ◌∷◌, ◌++◌, length, Option, Some, None, is_some, option_map, refl, sym, ap, ◌∙◌}
use Rattle.std.specs.Prelude.{option_and_then, if◌then◌else◌, ◌||◌}
use Rattle.wc_model.specs.Definitions.{Check, asks, first_broken, initial_checks, is_usable_type, may_occur, suits_type, VariableType, Elementary, Standard, Block, block_named, block_type, elementary_types, named_in, standard_blocks, standard_type, type_named, Name, Declaration, ProgramUnit}
use Rattle.wc_model.specs.declared.block.StandardBlock.{StandardBlock}
use Rattle.wc_model.specs.declared.kind.Kind.{Kind}
use Rattle.wc_model.specs.declared.source.Initial.{Initial}
use Rattle.wc_model.specs.declared.source.Section.{Section}
use Rattle.wc_model.specs.declared.value.Value.{Value}
use Rattle.wc_names.specs.{numbered_type, is_allowed_in, type_at}
use Rattle.wc_declare.specs.SoFar.{suits_numbered}
use Rattle.wc_names.specs.declared.declared_type.DeclaredType.{DeclaredType}
use Rattle.wc_names.specs.declared.declared_type.DeclaredType.TheVariants as numbered
use Rattle.wc_names.proofs.Places.{TypeCase, of_elementary, of_standard, of_block, type_case}

pub or_second : (a b c : Bool) → a ≡ false → b ≡ true → true ≡ ((a || b) || c)
or_second a b c p q = rw p (rw q refl)

pub or_third : (a b c : Bool) → a ≡ false → b ≡ false → c ≡ ((a || b) || c)
or_third a b c p q = rw p (rw q refl)

pub some_mapped : {X Y : Type 0} (f : X → Y) (o : Option X) → is_some (option_map f o) ≡ is_some o
some_mapped f (Some x) = refl
some_mapped f None = refl

suits_case : (before : List ProgramUnit) (type : Option VariableType) (declared : DeclaredType) (value : Value) → TypeCase before type declared → suits_numbered declared value ≡ suits_type type value
suits_case before type declared value (of_elementary k t d) = ap (λ x. suits_numbered x value) d ∙ sym (ap (λ x. suits_type x value) t)
suits_case before type declared value (of_standard b t d) = ap (λ x. suits_numbered x value) d ∙ sym (ap (λ x. suits_type x value) t)
suits_case before type declared value (of_block n u us t f d) = ap (λ x. suits_numbered x value) d ∙ sym (ap (λ x. suits_type x value) t)

pub initial_found : (before : List ProgramUnit) (d : Declaration) (initial : Initial) (declared : DeclaredType) (rest : List Check) → d.initial ≡ Some initial → type_at before d.type_name.name ≡ Some declared →
    first_broken (initial_checks before d ++ rest) ≡ (if suits_numbered declared initial.value then first_broken rest else Some (record { number = 303; line = initial.line }))
initial_found before d initial declared rest is e =
    ap (λ (o : Option Initial). first_broken ((elim o as (λ x. List Check) [ Some i ↦ asks 303 i.line (suits_type (type_named before d.type_name.name) i.value) ∷ [] | None ↦ [] ]) ++ rest)) is
    ∙ ap (λ b. if b then first_broken rest else Some (record { number = 303; line = initial.line })) (sym (suits_case before (type_named before d.type_name.name) declared initial.value (type_case before (type_named before d.type_name.name) declared e)))

usable : Section → Option VariableType → Bool
usable section None = false
usable section (Some type) = may_occur section type

usable_is : (section : Section) (type : Option VariableType) → (elim type as (λ x. Bool) [ Some t ↦ may_occur section t | None ↦ false ]) ≡ usable section type
unfolding usable
usable_is section None = refl
usable_is section (Some t) = refl

usable_case : (before : List ProgramUnit) (type : Option VariableType) (declared : DeclaredType) (section : Section) → TypeCase before type declared → usable section type ≡ is_allowed_in section declared
unfolding usable
usable_case before type declared section (of_elementary k t d) = ap (usable section) t ∙ ap (is_allowed_in section) (sym d)
usable_case before type declared section (of_standard b t d) = ap (usable section) t ∙ ap (is_allowed_in section) (sym d)
usable_case before type declared section (of_block n u us t f d) = ap (usable section) t ∙ ap (is_allowed_in section) (sym d)

pub usable_type : (before : List ProgramUnit) (section : Section) (name : Name) (declared : DeclaredType) → type_at before name ≡ Some declared → is_usable_type before section name ≡ is_allowed_in section declared
usable_type before section name declared e =
    usable_is section (type_named before name) ∙ usable_case before (type_named before name) declared section (type_case before (type_named before name) declared e)

-- a type that has no number is not a type
block_unknown : (before : List ProgramUnit) (section : Section) (name : Name) (found : Option (ProgramUnit × List ProgramUnit)) → block_named before name ≡ found →
    option_and_then (numbered_type before) (elim found as (λ x. Option VariableType) [ Some f ↦ Some (Block name) | None ↦ None ]) ≡ None → usable section (elim found as (λ x. Option VariableType) [ Some f ↦ Some (Block name) | None ↦ None ]) ≡ false
unfolding usable
block_unknown before section name None e h = refl
block_unknown before section name (Some f) e h = absurd (let k : Some (length f.1) ≡ None = sym (ap (option_map (λ (x : ProgramUnit × List ProgramUnit). length x.1)) e) ∙ none_counted (block_named before name) h in cc)
  where
    none_counted : (o : Option (ProgramUnit × List ProgramUnit)) → option_map (λ x. numbered.Block (length x.1)) o ≡ None → option_map (λ x. length x.1) o ≡ None
    none_counted None q = refl
    none_counted (Some x) q = cc

standard_unknown : (before : List ProgramUnit) (section : Section) (name : Name) (b : Option StandardBlock) →
    option_and_then (numbered_type before) (elim b as (λ x. Option VariableType) [ Some block ↦ Some (Standard block) | None ↦ block_type before name ]) ≡ None →
    usable section (elim b as (λ x. Option VariableType) [ Some block ↦ Some (Standard block) | None ↦ block_type before name ]) ≡ false
standard_unknown before section name None h = block_unknown before section name (block_named before name) refl h
standard_unknown before section name (Some b) h = cc

elementary_unknown : (before : List ProgramUnit) (section : Section) (name : Name) (k : Option Kind) →
    option_and_then (numbered_type before) (elim k as (λ x. Option VariableType) [ Some kind ↦ Some (Elementary kind) | None ↦ standard_type before name ]) ≡ None →
    usable section (elim k as (λ x. Option VariableType) [ Some kind ↦ Some (Elementary kind) | None ↦ standard_type before name ]) ≡ false
elementary_unknown before section name None h = standard_unknown before section name (named_in standard_blocks name) h
elementary_unknown before section name (Some k) h = cc

pub unusable_type : (before : List ProgramUnit) (section : Section) (name : Name) → type_at before name ≡ None → is_usable_type before section name ≡ false
unusable_type before section name e = usable_is section (type_named before name) ∙ elementary_unknown before section name (named_in elementary_types name) e
