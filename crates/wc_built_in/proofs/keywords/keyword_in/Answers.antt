use Rattle.wc_model.proofs.Common.{map, sym, ap, ◌∙◌, drop_all, drop_more}
use Rattle.wc_model.specs.Definitions.{named_in, name_of}
use Rattle.wc_built_in.specs.Keywords.{keyword_row}
use Rattle.wc_built_in.proofs.WordTables.{row_at, row_passed}
use Rattle.wc_built_in.proofs.keywords.keyword_in.Goals as goal

pub returns-then-is_word : goal.returns-then-is_word
returns-then-is_word c = row_at _ _ (name_of c.args.text.now) _ (drop_more c.args.rows.now c.loop-row.row-index _ c.loop-row-test.true) (sym c.if-is_word.ensures.here) ∙ c.loop-row.invariant

pub loop-row-preserved : goal.loop-row-preserved
loop-row-preserved c = row_passed _ _ (name_of c.args.text.now) _ (drop_more c.args.rows.now c.loop-row.row-index _ c.loop-row-test.true) (sym c.if-is_word.ensures.here) ∙ c.loop-row.invariant

pub returns : goal.returns
returns c = ap (λ rows. named_in (map keyword_row rows) (name_of c.args.text.now)) (sym (drop_all c.loop-row.row-index c.args.rows.now c.loop-row-test.false)) ∙ c.loop-row.invariant
