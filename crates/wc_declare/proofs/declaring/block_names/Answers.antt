use Rattle.wc_model.proofs.Common.{◌≡◌, ◌+◌, [], map, drop, ap, sym, ◌∙◌, drop_all}
use Rattle.std.specs.Prelude.{◌||◌, ◌&&◌}
use Rattle.wc_model.specs.Definitions.{is_among, names_block_of, is_block, same_name, unit_view}
use Rattle.wc_names.proofs.Lists.{from_index}
use Rattle.wc_declare.proofs.UnitsSoFar.{block_more, or_end}
use Rattle.wc_declare.proofs.declaring.block_names.Goals as goal

pub loop-unit-init : goal.loop-unit-init
loop-unit-init c = λ name. ap (λ ns. is_among ns name || names_block_of (map unit_view c.deref-unit-items.result.now) name) c.new-names.ensures

pub loop-unit-preserved : goal.loop-unit-preserved
loop-unit-preserved c = λ name.
    let i = c.loop-unit.unit-index in
    let items = c.deref-unit-items.result.now in
    let unit = unit_view c.unit-item.result in
    let cut = from_index items i c.unit-item.result c.loop-unit-test.true c.unit-item.is in
    let left = names_block_of (map unit_view (drop (i + 1) items)) name in
    ap (λ b. b || left) (c.in_ok-add_block.ensures.added name) ∙ block_more (is_among c.loop-unit.names name) (is_block unit && same_name unit.name.name name) left
    ∙ sym (ap (λ xs. is_among c.loop-unit.names name || names_block_of (map unit_view xs) name) cut) ∙ c.loop-unit.invariant name

pub returns-clause-names : goal.returns-clause-names
returns-clause-names c = λ name.
    let end : drop c.loop-unit.unit-index c.deref-unit-items.result.now ≡ [] = drop_all c.loop-unit.unit-index c.deref-unit-items.result.now c.loop-unit-test.false in
    sym (or_end (is_among c.loop-unit.names name)) ∙ sym (ap (λ xs. is_among c.loop-unit.names name || names_block_of (map unit_view xs) name) end) ∙ c.loop-unit.invariant name
    ∙ ap (λ xs. names_block_of (map unit_view xs) name) c.deref-unit-items.ensures.value
