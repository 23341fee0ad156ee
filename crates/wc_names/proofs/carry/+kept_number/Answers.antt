use Rattle.wc_model.proofs.Common.{◌≡◌, ◌+◌, ◌-◌, List, ◌∷◌, Some, refl, ap, sym, subst, ◌∙◌, arith, slice_get, common_steps}
use Rattle.wc_model.specs.Definitions.{type_named, Name, name_of, Content, unit_places}
use Rattle.wc_names.specs.{field_within, kept_from, IsTableOf, first_place}
use Rattle.wc_names.specs.declared.declared_type.DeclaredType.TheVariants as numbered
use Rattle.wc_names.proofs.KeptPlaces.{block_kept, field_kept, in_block, kept_nowhere, meets, plain_kept, unlike_block}
use Rattle.wc_names.proofs.Lists.{same_found}
use Rattle.wc_names.proofs.Lookups.{from_nothing, named_rows}
use Rattle.wc_names.proofs.Places.{type_case}
use Rattle.wc_names.proofs.Positions.{after_is}
use Rattle.wc_names.proofs.carry.+kept_number.Goals as goal

pub returns-in_err-old : goal.returns-in_err-old
returns-in_err-old t c = λ before u old_before old entry h e o f least there.
    let table_is = same_found c.args.units.now c.args.units.now c.args.unit h.table c.in_ok-table.table.now refl (ap (slice_get c.args.units.now) e ∙ h.there) c.in_ok-table.ensures.lookup.3.0 c.in_ok-table.ensures.lookup.1 in
    let place = c.in_ok-found.ensures before u entry (subst (IsTableOf before u) (sym table_is) h.is) least there in
    let old_there = ap (slice_get c.args.old_units.now) f ∙ o.there in
    let name = name_of c.in_ok-found.found.name.now in
    c.from_residual-in_err-old.ensures ∙ sym (ap (λ (x : List Name × Content). kept_from before u old_before old x.0) place.entry_is
    ∙ sym (kept_nowhere before u old_before old (name ∷ place.inner.0) (from_nothing c.args.old_units.now old_before old o name place.inner.0 (sym (c.row.ensures o.table old_there (named_rows c.args.old_units.now old_before old o)) ∙ c.in_err-old.was))))

pub returns-in-Elementary : goal.returns-in-Elementary
returns-in-Elementary t c = λ before u old_before old entry h e o f least there.
    let table_is = same_found c.args.units.now c.args.units.now c.args.unit h.table c.in_ok-table.table.now refl (ap (slice_get c.args.units.now) e ∙ h.there) c.in_ok-table.ensures.lookup.3.0 c.in_ok-table.ensures.lookup.1 in
    let place = c.in_ok-found.ensures before u entry (subst (IsTableOf before u) (sym table_is) h.is) least there in
    let old_there = ap (slice_get c.args.old_units.now) f ∙ o.there in
    let name = name_of c.in_ok-found.found.name.now in
    let m = meets c.args.old_units.now before u old_before old c.args.number entry name c.in_ok-found.found.row c.in_ok-old.old place o (sym (c.row.ensures o.table old_there (named_rows c.args.old_units.now old_before old o)) ∙ c.in_ok-old.was) in
    let old_case = type_case old_before (type_named old_before m.w.type_name) c.in_ok-old.old.declared m.old_type in
    let case = type_case before (type_named before m.v.type_name) (numbered.Elementary c.in-Elementary.kind) (m.type ∙ ap Some c.in-Elementary.is) in
    after_is c.in_ok-old.old.first c.plain_within.result c.offset_by.result _ c.offset_by.ensures.some c.offset_by.ensures.none
    (c.plain_within.ensures ∙ plain_kept before (type_named before m.v.type_name) m.v.initial c.in-Elementary.kind (c.args.number - c.in_ok-found.found.row.first) m.inner old_before (type_named old_before m.w.type_name) c.in_ok-old.old.declared m.w.initial case m.represents old_case) m.capacity
    ∙ m.is

pub returns-in-Standard : goal.returns-in-Standard
returns-in-Standard t c = λ before u old_before old entry h e o f least there.
    let table_is = same_found c.args.units.now c.args.units.now c.args.unit h.table c.in_ok-table.table.now refl (ap (slice_get c.args.units.now) e ∙ h.there) c.in_ok-table.ensures.lookup.3.0 c.in_ok-table.ensures.lookup.1 in
    let place = c.in_ok-found.ensures before u entry (subst (IsTableOf before u) (sym table_is) h.is) least there in
    let old_there = ap (slice_get c.args.old_units.now) f ∙ o.there in
    let name = name_of c.in_ok-found.found.name.now in
    let m = meets c.args.old_units.now before u old_before old c.args.number entry name c.in_ok-found.found.row c.in_ok-old.old place o (sym (c.row.ensures o.table old_there (named_rows c.args.old_units.now old_before old o)) ∙ c.in_ok-old.was) in
    let old_case = type_case old_before (type_named old_before m.w.type_name) c.in_ok-old.old.declared m.old_type in
    let case = type_case before (type_named before m.v.type_name) (numbered.Standard c.in-Standard.block) (m.type ∙ ap Some c.in-Standard.is) in
    after_is c.in_ok-old.old.first c.field_within.result c.offset_by-in-Standard.result _ c.offset_by-in-Standard.ensures.some c.offset_by-in-Standard.ensures.none
    (c.field_within.ensures ∙ ap (λ n. field_within c.in-Standard.block n c.in_ok-old.old.declared) c.saturating_sub-inner.ensures ∙ field_kept before (type_named before m.v.type_name) m.v.initial c.in-Standard.block (c.args.number - c.in_ok-found.found.row.first) m.inner old_before (type_named old_before m.w.type_name) c.in_ok-old.old.declared m.w.initial case m.represents old_case) m.capacity
    ∙ m.is

pub returns-then-block-unit : goal.returns-then-block-unit
returns-then-block-unit t c = λ before u old_before old entry h e o f least there.
    let table_is = same_found c.args.units.now c.args.units.now c.args.unit h.table c.in_ok-table.table.now refl (ap (slice_get c.args.units.now) e ∙ h.there) c.in_ok-table.ensures.lookup.3.0 c.in_ok-table.ensures.lookup.1 in
    let place = c.in_ok-found.ensures before u entry (subst (IsTableOf before u) (sym table_is) h.is) least there in
    let old_there = ap (slice_get c.args.old_units.now) f ∙ o.there in
    let name = name_of c.in_ok-found.found.name.now in
    let m = meets c.args.old_units.now before u old_before old c.args.number entry name c.in_ok-found.found.row c.in_ok-old.old place o (sym (c.row.ensures o.table old_there (named_rows c.args.old_units.now old_before old o)) ∙ c.in_ok-old.was) in
    let old_case = type_case old_before (type_named old_before m.w.type_name) c.in_ok-old.old.declared m.old_type in
    let case = type_case before (type_named before m.v.type_name) (numbered.Block c.in-Block.block) (m.type ∙ ap Some c.in-Block.is) in
    let b = in_block c.args.units.now before u h (type_named before m.v.type_name) m.v.initial c.in-Block.block case in
    let ob = in_block c.args.old_units.now old_before old o (type_named old_before m.w.type_name) m.w.initial c.in-Block-declared.other (type_case old_before (type_named old_before m.w.type_name) (numbered.Block c.in-Block-declared.other) (m.old_type ∙ ap Some c.in-Block-declared.is)) in
    let at : slice_get (unit_places b.earlier b.unit) (c.saturating_sub-inner.result - first_place b.unit) ≡ Some m.inner =
    ap (λ n. slice_get (unit_places b.earlier b.unit) (c.saturating_sub-inner.result - n)) b.first ∙ ap (λ n. slice_get (unit_places b.earlier b.unit) n) (let s = c.saturating_sub-inner.ensures in let z : c.saturating_sub-inner.result - 0 ≡ c.args.number - c.in_ok-found.found.row.first = omega (arith, s) in z)
    ∙ ap (λ places. slice_get places (c.args.number - c.in_ok-found.found.row.first)) (sym b.places) ∙ m.represents
    in
    let inner = c.kept_number.ensures b.earlier b.unit ob.earlier ob.unit m.inner b.represents b.counted ob.represents ob.counted (let z = b.first in omega (arith, z)) at in
    after_is c.in_ok-old.old.first c.kept_number.result c.offset_by-then-block-unit.result _ c.offset_by-then-block-unit.ensures.some c.offset_by-then-block-unit.ensures.none
    (inner ∙ block_kept c.args.units.now c.args.old_units.now before old_before (type_named before m.v.type_name) (type_named old_before m.w.type_name) m.v.initial m.w.initial c.in-Block.block c.in-Block-declared.other b ob m.inner.0) m.capacity
    ∙ m.is

pub returns-else-block-unit : goal.returns-else-block-unit
returns-else-block-unit t c = λ before u old_before old entry h e o f least there.
    let table_is = same_found c.args.units.now c.args.units.now c.args.unit h.table c.in_ok-table.table.now refl (ap (slice_get c.args.units.now) e ∙ h.there) c.in_ok-table.ensures.lookup.3.0 c.in_ok-table.ensures.lookup.1 in
    let place = c.in_ok-found.ensures before u entry (subst (IsTableOf before u) (sym table_is) h.is) least there in
    let old_there = ap (slice_get c.args.old_units.now) f ∙ o.there in
    let name = name_of c.in_ok-found.found.name.now in
    let m = meets c.args.old_units.now before u old_before old c.args.number entry name c.in_ok-found.found.row c.in_ok-old.old place o (sym (c.row.ensures o.table old_there (named_rows c.args.old_units.now old_before old o)) ∙ c.in_ok-old.was) in
    let old_case = type_case old_before (type_named old_before m.w.type_name) c.in_ok-old.old.declared m.old_type in
    let case = type_case before (type_named before m.v.type_name) (numbered.Block c.in-Block.block) (m.type ∙ ap Some c.in-Block.is) in
    let b = in_block c.args.units.now before u h (type_named before m.v.type_name) m.v.initial c.in-Block.block case in
    let l = b.below in
    let no = c.if-block-unit.false in
    absurd (omega (arith, l, no, e))

pub returns-in_default : goal.returns-in_default
returns-in_default t c = λ before u old_before old entry h e o f least there.
    let table_is = same_found c.args.units.now c.args.units.now c.args.unit h.table c.in_ok-table.table.now refl (ap (slice_get c.args.units.now) e ∙ h.there) c.in_ok-table.ensures.lookup.3.0 c.in_ok-table.ensures.lookup.1 in
    let place = c.in_ok-found.ensures before u entry (subst (IsTableOf before u) (sym table_is) h.is) least there in
    let old_there = ap (slice_get c.args.old_units.now) f ∙ o.there in
    let name = name_of c.in_ok-found.found.name.now in
    let m = meets c.args.old_units.now before u old_before old c.args.number entry name c.in_ok-found.found.row c.in_ok-old.old place o (sym (c.row.ensures o.table old_there (named_rows c.args.old_units.now old_before old o)) ∙ c.in_ok-old.was) in
    let old_case = type_case old_before (type_named old_before m.w.type_name) c.in_ok-old.old.declared m.old_type in
    let case = type_case before (type_named before m.v.type_name) (numbered.Block c.in-Block.block) (m.type ∙ ap Some c.in-Block.is) in
    let b = in_block c.args.units.now before u h (type_named before m.v.type_name) m.v.initial c.in-Block.block case in
    ap (λ x. Rattle.std.proofs.Common.option_map (λ n. c.in_ok-old.old.first + n) x) (unlike_block c.args.units.now before old_before (type_named before m.v.type_name) (type_named old_before m.w.type_name) m.v.initial m.w.initial c.in-Block.block c.in_ok-old.old.declared b old_case c.in_default.not-Block m.inner.0)
    ∙ m.is

pub kept_number-requires : goal.kept_number-requires
kept_number-requires t c = grind (arith, common_steps)
