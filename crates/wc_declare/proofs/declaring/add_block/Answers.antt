use Rattle.std.proofs.Common.{refl, sym, ◌∙◌}
use Rattle.wc_model.specs.Definitions.{is_among, is_block, same_name, name_view, unit_view}
use Rattle.wc_declare.proofs.UnitsSoFar.{block_added, no_block}
use Rattle.wc_declare.proofs.declaring.add_block.Goals as goal

pub returns-then-not-is_block-clause-added : goal.returns-then-not-is_block-clause-added
returns-then-not-is_block-clause-added c = λ name.
    no_block (is_among c.args.names.now name) (is_block (unit_view c.args.unit.now)) (same_name (name_view c.args.unit.now.name) name) (sym c.is_block.ensures ∙ c.if-not-is_block.true)

pub returns-clause-added : goal.returns-clause-added
returns-clause-added c = λ name.
    block_added c.args.names.now c.add.new.self (name_view c.args.unit.now.name) c.in_ok-add.field-0 (is_block (unit_view c.args.unit.now)) name (sym c.is_block.ensures ∙ c.if-not-is_block.false)
    (is_among c.args.names.now (name_view c.args.unit.now.name)) refl c.in_ok-add.ensures.new c.in_ok-add.ensures.names
