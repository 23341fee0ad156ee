use Rattle.std.proofs.Common.{◌∙◌, ap, true}
use Rattle.clap.specs.Words.{App}
use Rattle.clap.specs.Simple.{app_of_fields}
use Rattle.clap.specs.declared.builder.command.Command.TheOpen.{Command-F}
use Rattle.clap.specs.declared.builder.command.Command.{Command}
use Rattle.wc_arguments.specs.CommandLine.{Takes, command_line, program_name}
use Rattle.wc_arguments.proofs.Tables.{taken}
use Rattle.wc_arguments.proofs.invocation.command.Goals as goal

abbrev has_version : App → App
has_version a = record a { top = record a.top { has_version = true } }

pub returns : goal.returns
returns c =
    let zero : Takes program_name _ = (
      ap app_of_fields c.in_ok-line.ensures.0 ∙ (ap app_of_fields c.about.ensures ∙ (ap app_of_fields c.version.ensures ∙ ap has_version c.new.ensures.app)),
      ap (λ (f : Command-F Command). f.has_globals) c.in_ok-line.ensures.0 ∙ (ap (λ (f : Command-F Command). f.has_globals) c.about.ensures ∙ (ap (λ (f : Command-F Command). f.has_globals) c.version.ensures ∙ c.new.ensures.local)),
    ) in
    taken _ command_line (c.with_commands.ensures _ (c.in_ok-line-2.ensures program_name zero))
