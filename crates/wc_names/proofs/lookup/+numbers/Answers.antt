use Rattle.wc_model.proofs.Common.{map, Some, ap, sym, ◌∙◌, slice_get}
use Rattle.wc_model.specs.Definitions.{name_of, variables_of}
use Rattle.wc_names.specs.RepresentsText.{first_place}
use Rattle.wc_names.proofs.Lookups.{empty_list, from_nothing, from_row, has_capacity, named_rows, no_name, place_from, within_block, within_elementary, within_standard}
use Rattle.wc_names.proofs.Frames.{own_places}
use Rattle.wc_names.proofs.Positions.{after_is}
use Rattle.wc_names.proofs.lookup.+numbers.Goals as goal

pub number-returns-in_err-name : goal.number-returns-in_err-name
number-returns-in_err-name t c = λ before u h e.
    c.from_residual.ensures ∙ sym (ap (λ xs. place_from before u (map (λ n. name_of n.now) xs)) (empty_list c.args.names.now c.in_err-name.ensures.cases) ∙ no_name before (first_place u) (variables_of u))

pub number-returns-in_err-row : goal.number-returns-in_err-row
number-returns-in_err-row t c = λ before u h e.
    let names = map (λ n. name_of n.now) c.in_ok-name.rest.now in
    let name = name_of c.in_ok-name.name.now.now in
    let there = ap (slice_get c.args.units.now) e ∙ h.there in
    c.from_residual-in_err-row.ensures ∙ sym (ap (λ ns. place_from before u (map (λ n. name_of n.now) ns)) c.in_ok-name.ensures.cases.0
    ∙ from_nothing c.args.units.now before u h name names (sym (c.row.ensures h.table there (named_rows c.args.units.now before u h)) ∙ c.in_err-row.was))

pub number-returns : goal.number-returns
number-returns t c = λ before u h e.
    let name = name_of c.in_ok-name.name.now.now in
    let there = ap (slice_get c.args.units.now) e ∙ h.there in
    c.number_after.ensures before u h name (sym (c.row.ensures h.table there (named_rows c.args.units.now before u h)) ∙ c.in_ok-row.was)
    ∙ sym (ap (λ xs. place_from before u (map (λ n. name_of n.now) xs)) c.in_ok-name.ensures.cases.0)

pub number_after-returns-in-Elementary : goal.number_after-returns-in-Elementary
number_after-returns-in-Elementary t c = λ before u h name found.
    let ns = map (λ n. name_of n.now) c.args.rest.now in
    let row = c.args.row in
    let f = from_row c.args.units.now before u h name ns row found in
    let inner = within_elementary before f.v c.in-Elementary.field-0 ns c.plain_at.result (f.declared ∙ ap Some c.in-Elementary.is) c.plain_at.ensures in
    after_is row.first c.plain_at.result c.offset_by.result _ c.offset_by.ensures.some c.offset_by.ensures.none inner (has_capacity row.first (own_places before f.v) ns h.table.size f.capacity h.is.small)
    ∙ sym f.at_is

pub number_after-returns-in-Standard : goal.number_after-returns-in-Standard
number_after-returns-in-Standard t c = λ before u h name found.
    let ns = map (λ n. name_of n.now) c.args.rest.now in
    let row = c.args.row in
    let f = from_row c.args.units.now before u h name ns row found in
    let inner = within_standard before f.v c.in-Standard.block ns c.field_at.result (f.declared ∙ ap Some c.in-Standard.is) c.field_at.ensures in
    after_is row.first c.field_at.result c.offset_by-in-Standard.result _ c.offset_by-in-Standard.ensures.some c.offset_by-in-Standard.ensures.none inner (has_capacity row.first (own_places before f.v) ns h.table.size f.capacity h.is.small)
    ∙ sym f.at_is

pub number_after-returns-in-Block : goal.number_after-returns-in-Block
number_after-returns-in-Block t c = λ before u h name found.
    let ns = map (λ n. name_of n.now) c.args.rest.now in
    let row = c.args.row in
    let f = from_row c.args.units.now before u h name ns row found in
    let b = within_block c.args.units.now before u h f.v c.in-Block.block ns (f.declared ∙ ap Some c.in-Block.is) in
    let inner = c.number.ensures b.earlier b.unit b.represents b.counted ∙ b.places in
    after_is row.first c.number.result c.offset_by-in-Block.result _ c.offset_by-in-Block.ensures.some c.offset_by-in-Block.ensures.none inner (has_capacity row.first (own_places before f.v) ns h.table.size f.capacity h.is.small)
    ∙ sym f.at_is
