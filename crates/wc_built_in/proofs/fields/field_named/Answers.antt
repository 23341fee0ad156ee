use Rattle.wc_model.proofs.Common.{refl, sym, ap, ◌∙◌, arith, slice_get_read}
use Rattle.std.specs.Prelude.{length, option_and_then, slice_get}
use Rattle.wc_model.specs.Definitions.{same_name, name_of}
use Rattle.wc_built_in.specs.Fields.{named_seen}
use Rattle.wc_built_in.proofs.FieldTables.{found_by, member_is, number_below, number_is}
use Rattle.wc_built_in.proofs.fields.field_named.Goals as goal

pub returns-in_err-number-clause-number : goal.returns-in_err-number-clause-number
returns-in_err-number-clause-number c =
    let table = c.standard_fields-fields in
    rw c.from_residual.ensures (sym c.in_err-number.was ∙ c.field_number.ensures ∙ number_is table.result.now c.args.block (name_of c.args.name.now) table.ensures.fields)

pub returns-in_err-number-clause-member : goal.returns-in_err-number-clause-member
returns-in_err-number-clause-member c =
    let table = c.standard_fields-fields in
    let name = name_of c.args.name.now in
    let found = found_by (λ f. same_name (name_of f.name.now) name) table.result.now c.field_number.result c.field_number.ensures ∙ ap (option_and_then (slice_get table.result.now)) c.in_err-number.was in
    rw c.from_residual.ensures (sym (ap (option_and_then named_seen) found) ∙ member_is table.result.now c.args.block name table.ensures.fields table.ensures.members)

pub returns-clause-number : goal.returns-clause-number
returns-clause-number c =
    let table = c.standard_fields-fields in
    sym c.in_ok-number.was ∙ c.field_number.ensures ∙ number_is table.result.now c.args.block (name_of c.args.name.now) table.ensures.fields

pub returns-clause-member : goal.returns-clause-member
returns-clause-member c =
    let table = c.standard_fields-fields in
    let name = name_of c.args.name.now in
    let there = slice_get_read table.result.now (length table.result.now) c.in_ok-number.number c.in_ok-field.field.now refl c.in_ok-field.ensures.lookup.3.0 c.in_ok-field.ensures.lookup.1 in
    let found = found_by (λ f. same_name (name_of f.name.now) name) table.result.now c.field_number.result c.field_number.ensures ∙ ap (option_and_then (slice_get table.result.now)) c.in_ok-number.was ∙ there in
    sym (ap (option_and_then named_seen) found) ∙ member_is table.result.now c.args.block name table.ensures.fields table.ensures.members

pub returns-in_err-field-clause-number : goal.returns-in_err-field-clause-number
returns-in_err-field-clause-number c =
    let table = c.standard_fields-fields in
    let name = name_of c.args.name.now in
    let below = number_below (λ f. same_name (name_of f.name.now) name) table.result.now c.in_ok-number.number (sym c.field_number.ensures ∙ c.in_ok-number.was) in
    let past = c.in_err-field.ensures.lookup.3 in
    absurd (omega (arith, below, past))

pub returns-in_err-field-clause-member : goal.returns-in_err-field-clause-member
returns-in_err-field-clause-member c =
    let table = c.standard_fields-fields in
    let name = name_of c.args.name.now in
    let below = number_below (λ f. same_name (name_of f.name.now) name) table.result.now c.in_ok-number.number (sym c.field_number.ensures ∙ c.in_ok-number.was) in
    let past = c.in_err-field.ensures.lookup.3 in
    absurd (omega (arith, below, past))
