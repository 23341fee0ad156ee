-- What the rows of the table of words represent.
use Rattle.std.specs.Prelude.{List, [], ◌∷◌}
use Rattle.clap.specs.Words.{App, Rule, Text, new_app, with_rule, with_subcommand}
use Rattle.wc_arguments.specs.CommandLine.{file_option, flag, number_option, place}
use Rattle.wc_arguments.specs.CommandLine.{value_option, wide_number_option}
use Rattle.wc_arguments.specs.declared.table.OptionKind.{OptionKind}
use Rattle.wc_arguments.specs.declared.table.OptionKind.TheVariants as kind
use Rattle.wc_arguments.specs.declared.table.OptionRow.{OptionRow}
use Rattle.wc_arguments.specs.declared.table.CommandRow.{CommandRow}

-- an option of that kind and name
abbrev pub rule_by : OptionKind → Text → Rule
rule_by (kind.Place value) name = place name
rule_by (kind.File value) name = file_option name
rule_by (kind.Value value) name = value_option name
rule_by (kind.Scans value) name = number_option name 1 1000
rule_by (kind.WideNumber value) name = wide_number_option name
rule_by kind.Flag name = flag name

-- the option of a row
abbrev pub row_rule : OptionRow → Rule
row_rule row = rule_by row.kind row.name.now

-- a word with the options of these rows more
abbrev pub with_options : App → List OptionRow → App
with_options word [] = word
with_options word (row ∷ rest) = with_options (with_rule word (row_rule row)) rest

-- the word of a row
abbrev pub command_of : CommandRow → App
command_of row = with_options (new_app row.name.now) row.options.now

-- a command line with the words of these rows more
abbrev pub with_commands : App → List CommandRow → App
with_commands line [] = line
with_commands line (row ∷ rest) = with_commands (with_subcommand line (command_of row).top) rest
