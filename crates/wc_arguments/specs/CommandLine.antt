-- The words that the command line takes, and the options of each.
use Rattle.std.specs.Prelude.{◌≡◌, ℕ, Some, codes, pos, true, false}
use Rattle.clap.specs.Words.{App, Rule, Text, app_of, new_app, new_rule, with_rule}
use Rattle.clap.specs.Words.{with_subcommand}
use Rattle.clap.specs.declared.builder.command.Command.{Command}
use Rattle.clap.specs.declared.builder.command.Command.TheViews.{out-Command}
use Rattle.clap.specs.declared.builder.action.ArgAction.TheVariants.{SetTrue}
use Rattle.clap.specs.declared.builder.value_parser.ValueParser.TheVariants.{Signed, Unsigned}

-- a value that must be given, and is known by its place
abbrev pub place : Text → Rule
place name = record (new_rule name) { value_names = 1; required = true }

-- a value
abbrev pub value_argument : Text → Rule
value_argument name = record (new_rule name) { value_names = 1 }

-- `--NAME FILE`, which must be given
abbrev pub file_option : Text → Rule
file_option name = record (place name) { long = Some name }

-- `--NAME`, which takes no value
abbrev pub flag : Text → Rule
flag name = record (new_rule name) { long = Some name; action = Some SetTrue }

-- `--NAME N`, N within a range
abbrev pub number_option : Text → ℕ → ℕ → Rule
number_option name least most = record (new_rule name) {
  long = Some name;
  value_names = 1;
  parser = Some (Signed (pos least) (pos most));
}

-- `--NAME N`, N a number of 64 bits
abbrev pub wide_number_option : Text → Rule
wide_number_option name = record (new_rule name) {
  long = Some name;
  value_names = 1;
  parser = Some (Unsigned 0 18446744073709551615);
}

-- `--NAME VALUE`, which may be given
abbrev pub value_option : Text → Rule
value_option name = record (new_rule name) { long = Some name; value_names = 1 }

-- `--message FORM`
abbrev pub message_option : Rule
message_option = value_option (codes "message")

-- `check PROGRAM [--next FILE] [--path] [--deny-warnings] [--message FORM]`
abbrev pub check_word : App
check_word = with_rule (with_rule (with_rule (with_rule (with_rule (new_app (codes "check"))
    (place (codes "program"))) (value_option (codes "next"))) (flag (codes "path")))
    (flag (codes "deny-warnings"))) message_option

-- `run --plate FILE --program FILE [--next FILE] --log FILE [--last N] [--watch NAMES [--changes]]
-- [--message FORM]`, N from 1 to 1000
abbrev pub run_word : App
run_word = with_rule (with_rule (with_rule (with_rule (with_rule (with_rule (with_rule (with_rule
    (new_app (codes "run")) (file_option (codes "plate"))) (file_option (codes "program")))
    (value_option (codes "next"))) (file_option (codes "log")))
    (number_option (codes "last") 1 1000)) (value_option (codes "watch"))) (flag (codes "changes")))
    message_option

-- `trace --plate FILE --program FILE [--next FILE] --log FILE [--at MS] [--scan N] [--from MS] [--to MS]
-- [--message FORM]`
abbrev pub trace_word : App
trace_word = with_rule (with_rule (with_rule (with_rule (with_rule (with_rule (with_rule (with_rule
    (with_rule (new_app (codes "trace")) (file_option (codes "plate")))
    (file_option (codes "program"))) (value_option (codes "next"))) (file_option (codes "log")))
    (wide_number_option (codes "at"))) (wide_number_option (codes "scan")))
    (wide_number_option (codes "from"))) (wide_number_option (codes "to"))) message_option

-- `show --plate FILE [--program FILE [--next FILE] [--watch NAMES]] --log FILE [--message FORM]`
abbrev pub show_word : App
show_word = with_rule (with_rule (with_rule (with_rule (with_rule (with_rule
    (new_app (codes "show")) (file_option (codes "plate"))) (value_option (codes "program")))
    (value_option (codes "next"))) (file_option (codes "log"))) (value_option (codes "watch")))
    message_option

-- `line --plate FILE --log FILE [--message FORM]`
abbrev pub line_word : App
line_word = with_rule (with_rule (with_rule (new_app (codes "line")) (file_option (codes "plate")))
    (file_option (codes "log"))) message_option

-- `cut --plate FILE --log FILE [--at ROW] [--message FORM]`
abbrev pub cut_word : App
cut_word = with_rule (with_rule (with_rule (with_rule (new_app (codes "cut"))
    (file_option (codes "plate"))) (file_option (codes "log"))) (wide_number_option (codes "at")))
    message_option

-- `decode [--csv]`
abbrev pub decode_word : App
decode_word = with_rule (new_app (codes "decode")) (flag (codes "csv"))

-- `explain NUMBER`
abbrev pub explain_word : App
explain_word = with_rule (new_app (codes "explain")) (place (codes "number"))

-- `wc`, which has a version
abbrev pub program_name : App
program_name =
    record (new_app (codes "wc")) { top = record (new_app (codes "wc")).top { has_version = true } }

-- `wc [--message FORM]` alone, or followed by one of the words
abbrev pub command_line : App
command_line = with_subcommand (with_subcommand (with_subcommand (with_subcommand (with_subcommand
    (with_subcommand (with_subcommand (with_subcommand (with_rule program_name message_option)
    check_word.top) run_word.top) trace_word.top) show_word.top) line_word.top) cut_word.top)
    decode_word.top) explain_word.top

-- the command takes what the table says
abbrev pub Takes : App → Command → Type 0
Takes word command = (app_of command ≡ word) × ((out-Command command).has_globals ≡ false)
