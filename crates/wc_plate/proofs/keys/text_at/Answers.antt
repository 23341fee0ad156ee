use Rattle.std.proofs.Common.{◌≡◌, ◌∙◌, refl, sym, ap}
use Rattle.std.specs.Prelude.{is_some, option_and_then, option_copied}
use Rattle.toml.proofs.Views.{table_get}
use Rattle.toml.specs.Data.{as_str}
use Rattle.toml.specs.View.{table_view}
use Rattle.wc_model.specs.Instrument.PlateTable as plate
use Rattle.wc_plate.proofs.Lookups.{if_found, if_given, if_missing, not_there, text_found, there}
use Rattle.wc_plate.specs.KeyFaults.{BlamesText}
use Rattle.wc_plate.specs.TomlTable.{entries_of}
use Rattle.wc_plate.specs.declared.broken.BrokenRule.TheVariants.{MissingKey}
use Rattle.wc_plate.proofs.keys.text_at.Goals as goal

pub returns-clause-text : goal.returns-clause-text
returns-clause-text c =
    let found = table_get c.get.result c.args.key.now c.args.table.now.entries c.get.ensures.value in
    let has : plate.text_at (entries_of (table_view c.args.table.now)) c.args.key.now ≡ option_copied c.as_str.result =
    text_found c.args.key.now (table_view c.args.table.now) ∙ sym (ap (option_and_then as_str) (rw c.in_ok-value.ensures.ok_part at found))
    ∙ sym c.as_str.ensures in
    if_found _ c.as_str.result _ c.ok_or-2.result c.ok_or-2.ensures.value (λ text is. has ∙ ap option_copied is)

pub returns-clause-fault : goal.returns-clause-fault
returns-clause-fault c =
    let found = table_get c.get.result c.args.key.now c.args.table.now.entries c.get.ensures.value in
    let has : plate.text_at (entries_of (table_view c.args.table.now)) c.args.key.now ≡ option_copied c.as_str.result =
    text_found c.args.key.now (table_view c.args.table.now) ∙ sym (ap (option_and_then as_str) (rw c.in_ok-value.ensures.ok_part at found))
    ∙ sym c.as_str.ensures in
    if_missing _ c.as_str.result _ c.ok_or-2.result c.ok_or-2.ensures.value (λ missing.
    let none = has ∙ ap option_copied missing in
    record {
      none = none;
      fault = λ is. record {
        asked = rw is refl;
        there = there c.args.key.now (table_view c.args.table.now) _ (rw c.in_ok-value.ensures.ok_part at found);
        misfit = rw is (ap is_some (rw is at none));
      };
    })

pub returns-in_err-value-clause-fault : goal.returns-in_err-value-clause-fault
returns-in_err-value-clause-fault c =
    let found = table_get c.get.result c.args.key.now c.args.table.now.entries c.get.ensures.value in
    let none = c.in_err-value.ensures.ok_part in
    let blames : BlamesText (entries_of (table_view c.args.table.now)) c.args.key.now (MissingKey c.args.key) = record {
      none = text_found c.args.key.now (table_view c.args.table.now) ∙ sym (ap (option_and_then as_str) (rw none at found));
      fault = λ is. record { asked = rw is refl; missing = not_there c.args.key.now (table_view c.args.table.now) (rw none at found) };
    } in
    if_given _ c.get.result _ c.in_err-value.field-0.0 c.from_residual.result c.from_residual.ensures c.in_err-value.ensures.value none blames
