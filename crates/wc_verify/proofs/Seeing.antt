-- What the tables say of an operand.
use Rattle.std.proofs.Common.{◌≡◌, Bool, true, Option, Some, None, refl}
use Rattle.std.specs.Prelude.{is_some, option_map}
use Rattle.wc_model.specs.Definitions.{is_readable, is_writable, elementary_kind, term_kind, Scope, Entity, entity_of, Term}
use Rattle.wc_model.specs.declared.kind.Kind.{Kind}
use Rattle.wc_names.specs.Numbered.{numbered_entity}
use Rattle.wc_names.specs.declared.entity.Entity.{Entity as FoundEntity}
use Rattle.wc_verify.specs.Seeing.{IsSeen}

-- the kind of what may be there
abbrev kind_of_any : Option Entity → Option Kind
kind_of_any None = None
kind_of_any (Some e) = elementary_kind e.type

-- the parts of what is found
abbrev found_readable : Option FoundEntity → Bool
found_readable None = true
found_readable (Some e) = e.readable

abbrev found_writable : Option FoundEntity → Bool
found_writable None = true
found_writable (Some e) = e.writable

abbrev found_kind : Option FoundEntity → Option Kind
found_kind None = None
found_kind (Some e) = e.kind

some_same : (scope : Scope) (o : Option Entity) → is_some o ≡ is_some (option_map (numbered_entity scope) o)
some_same scope None = refl
some_same scope (Some e) = refl

readable_same : (scope : Scope) (o : Option Entity) → is_readable o ≡ found_readable (option_map (numbered_entity scope) o)
readable_same scope None = refl
readable_same scope (Some e) = refl

writable_same : (scope : Scope) (o : Option Entity) → is_writable o ≡ found_writable (option_map (numbered_entity scope) o)
writable_same scope None = refl
writable_same scope (Some e) = refl

kind_same : (scope : Scope) (o : Option Entity) → kind_of_any o ≡ found_kind (option_map (numbered_entity scope) o)
kind_same scope None = refl
kind_same scope (Some e) = refl

term_kind_is : (scope : Scope) (term : Term) → term_kind scope term ≡ kind_of_any (entity_of scope term)
term_kind_is scope term = elim (entity_of scope term) as (λ o. (elim o [ Some e ↦ elementary_kind e.type | None ↦ None ]) ≡ kind_of_any o) [ Some e ↦ refl | None ↦ refl ]

-- what is found says what is known
pub seen_as : (scope : Scope) (term : Term) (found : Option FoundEntity) → found ≡ option_map (numbered_entity scope) (entity_of scope term) →
    IsSeen scope term (record { known = is_some found; readable = found_readable found; writable = found_writable found; kind = found_kind found })
seen_as scope term found e = record {
  known = rw e (some_same scope (entity_of scope term));
  readable = rw e (readable_same scope (entity_of scope term));
  writable = rw e (writable_same scope (entity_of scope term));
  kind = rw (e, term_kind_is scope term) (kind_same scope (entity_of scope term));
}
