use Rattle.wc_model.specs.Language.Views.{text_view}
use Rattle.wc_declare.proofs.UnitsSoFar.{none_so_far}
use Rattle.wc_declare.proofs.declaring.no_units.Goals as goal

pub returns-clause-units : goal.returns-clause-units
returns-clause-units c =
    none_so_far (text_view c.args.source.now) (record { blocks = c.in_ok-blocks.blocks; names = c.new.result; tables = c.new-2.result }) c.in_ok-blocks.ensures.names c.new.ensures c.new-2.ensures.items
