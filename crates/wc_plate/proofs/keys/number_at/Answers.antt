use Rattle.wc_model.proofs.Common.{◌≡◌, ◌∙◌, refl, sym, ap, option_and_then}
use Rattle.toml.proofs.Views.{table_get}
use Rattle.toml.specs.Data.{as_integer}
use Rattle.toml.specs.View.{table_view}
use Rattle.wc_model.specs.Instrument.PlateTable as plate
use Rattle.wc_plate.proofs.Lookups.{if_found, if_given, if_missing, not_there, number_found, there}
use Rattle.wc_plate.specs.KeyFaults.{BlamesNumber}
use Rattle.wc_plate.specs.TomlTable.{entries_of}
use Rattle.wc_plate.specs.declared.broken.BrokenRule.TheVariants.{MissingKey}
use Rattle.wc_plate.proofs.keys.number_at.Goals as goal

pub returns-clause-number : goal.returns-clause-number
returns-clause-number c =
    let found = table_get c.get.result c.args.key.now c.args.table.now.entries c.get.ensures.value in
    let has : plate.number_at (entries_of (table_view c.args.table.now)) c.args.key.now ≡ c.as_integer.result =
    number_found c.args.key.now (table_view c.args.table.now) ∙ sym (ap (option_and_then as_integer) (rw c.in_ok-value.ensures.ok_part at found))
    ∙ sym c.as_integer.ensures in
    if_found _ c.as_integer.result _ c.ok_or-2.result c.ok_or-2.ensures.value (λ number is. has ∙ is)

pub returns-clause-fault : goal.returns-clause-fault
returns-clause-fault c =
    let found = table_get c.get.result c.args.key.now c.args.table.now.entries c.get.ensures.value in
    let has : plate.number_at (entries_of (table_view c.args.table.now)) c.args.key.now ≡ c.as_integer.result =
    number_found c.args.key.now (table_view c.args.table.now) ∙ sym (ap (option_and_then as_integer) (rw c.in_ok-value.ensures.ok_part at found))
    ∙ sym c.as_integer.ensures in
    if_missing _ c.as_integer.result _ c.ok_or-2.result c.ok_or-2.ensures.value (λ missing.
    let none = has ∙ missing in
    record {
      none = none;
      fault = λ asked other. record {
        asked = asked;
        there = there c.args.key.now (table_view c.args.table.now) _ (rw c.in_ok-value.ensures.ok_part at found);
        misfit = rw (other, none) refl;
      };
    })

pub returns-in_err-value-clause-fault : goal.returns-in_err-value-clause-fault
returns-in_err-value-clause-fault c =
    let found = table_get c.get.result c.args.key.now c.args.table.now.entries c.get.ensures.value in
    let none = c.in_err-value.ensures.ok_part in
    let blames : BlamesNumber (entries_of (table_view c.args.table.now)) c.args.key.now (MissingKey c.args.key) = record {
      none = number_found c.args.key.now (table_view c.args.table.now) ∙ sym (ap (option_and_then as_integer) (rw none at found));
      fault = λ asked other. record { asked = asked; missing = not_there c.args.key.now (table_view c.args.table.now) (rw none at found) };
    } in
    if_given _ c.get.result _ c.in_err-value.field-0.0 c.from_residual.result c.from_residual.ensures c.in_err-value.ensures.value none blames
