use Rattle.std.proofs.Common.{◌≡◌, ◌∙◌, [], ap, drop, sym}
use Rattle.std.proofs.lemmas.List.{drop_all}
use Rattle.clap.specs.Words.{app_of}
use Rattle.wc_arguments.specs.Table.{with_commands}
use Rattle.wc_arguments.proofs.Tables.{subcommand_added, word_added}
use Rattle.wc_arguments.proofs.table.with_commands.Goals as goal

pub loop-row-preserved : goal.loop-row-preserved
loop-row-preserved c = λ app takes.
    let so_far = c.loop-row.invariant app takes in
    let word = subcommand_added c.loop-row.line c.in_ok-word.word c.in_ok-line.line _ c.in_ok-line.ensures c.in_ok-word.ensures so_far.1 in
    let one = word_added c.loop-row.line c.in_ok-line.line c.args.rows.now c.loop-row.row-index _ c.loop-row-test.true word in
    (one.0 ∙ so_far.0, one.1)

pub returns : goal.returns
returns c = λ app takes.
    let so_far = c.loop-row.invariant app takes in
    let end : drop c.loop-row.row-index c.args.rows.now ≡ [] = drop_all c.loop-row.row-index c.args.rows.now c.loop-row-test.false in
    (sym (ap (with_commands (app_of c.loop-row.line)) end) ∙ so_far.0, so_far.1)
