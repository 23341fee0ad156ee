use Rattle.std.proofs.Common.{◌≡◌, false, drop}
use Rattle.clap.specs.Words.{App, app_of}
use Rattle.clap.specs.declared.builder.command.Command.TheViews.{out-Command}
use Rattle.wc_arguments.specs.{Takes, with_commands}
use Rattle.wc_arguments.proofs.table.with_commands.Given as goal

-- the rows that are left lead to the same command line
abbrev pub invariant-loop-row : goal.invariant-loop-row
invariant-loop-row l = (app : App) → Takes app l.initial.line → (with_commands (app_of l.line) (drop l.row-index l.rows) ≡ with_commands app l.rows) × ((out-Command l.line).has_globals ≡ false)
