use Rattle.std.proofs.Common.{◌≡◌, false, drop}
use Rattle.clap.specs.Words.{App, app_of}
use Rattle.clap.specs.declared.builder.command.Command.TheViews.{out-Command}
use Rattle.wc_arguments.specs.{Takes, with_options}
use Rattle.wc_arguments.proofs.table.with_options.Given as goal

-- the rows that are left lead to the same word
abbrev pub invariant-loop-row : goal.invariant-loop-row
invariant-loop-row l = (app : App) → Takes app l.initial.word → (with_options (app_of l.word) (drop l.row-index l.rows) ≡ with_options app l.rows) × ((out-Command l.word).has_globals ≡ false)
