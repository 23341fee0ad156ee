use Rattle.wc_model.proofs.Common.{◌∙◌, Err, ap, refl, sym, false≢true}
use Rattle.toml.specs.View.{table_view}
use Rattle.wc_plate.proofs.Texts.{read_some, read_none}
use Rattle.wc_plate.proofs.reading.plate.Goals as goal

pub returns-in-Err-2-clause-verdict : goal.returns-in-Err-2-clause-verdict
returns-in-Err-2-clause-verdict c =
    (rw (read_none c.args.text.now (c.in-Err.ensures.refused (λ m. false≢true (sym c.if-is_memory.false ∙ c.is_memory.ensures.1 m)))), refl)

pub returns-in-Ok-plate_of-clause-verdict : goal.returns-in-Ok-plate_of-clause-verdict
returns-in-Ok-plate_of-clause-verdict c =
    rw (read_some c.args.text.now (table_view c.in-Ok.table) c.in-Ok.ensures.ok) c.in-Ok-plate_of.ensures

pub returns-clause-verdict : goal.returns-clause-verdict
returns-clause-verdict c =
    (rw (read_some c.args.text.now (table_view c.in-Ok.table) c.in-Ok.ensures.ok) (c.in-Err-plate_of.ensures.0 ∙ ap Err (sym c.number.ensures)), refl)
