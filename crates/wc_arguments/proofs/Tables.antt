-- A command with the option of one more row, and with the word of one more row, takes what the table says.
use Rattle.std.proofs.Common.{◌≡◌, ◌∙◌, ◌+◌, ◌<◌, ◌∷◌, ℕ, suc, List, drop, false, get_or, length, refl, ap, sym, add-one, drop-cons, Err, IfOk, Ok, Result}
use Rattle.clap.specs.Built.{AddsArg, AddsSubcommand}
use Rattle.clap.specs.Words.{App, app_of, rule_of, with_rule, with_subcommand}
use Rattle.clap.specs.declared.builder.arg.Arg.{Arg}
use Rattle.clap.specs.declared.builder.command.Command.{Command}
use Rattle.clap.specs.declared.builder.command.Command.TheViews.{out-Command}
use Rattle.wc_arguments.specs.{Takes, row_rule, with_options, with_commands, command_of}
use Rattle.wc_arguments.specs.declared.table.OptionRow.{OptionRow}
use Rattle.wc_arguments.specs.declared.table.CommandRow.{CommandRow}

from_index : {X : Type 0} (items : List X) (i : ℕ) (x : X) → i < length items → drop i items ≡ get_or items i x ∷ drop (i + 1) items
from_index items i x below = let next : i + 1 ≡ suc i = add-one i in drop-cons items i x below ∙ (λ j. get_or items i x ∷ drop (sym next j) items)

-- the option of the row at that index is added
pub option_added : (old new : Command) (arg : Arg) (rows : List OptionRow) (i : ℕ) (none : OptionRow) → i < length rows → rule_of arg ≡ row_rule (get_or rows i none) → arg.global ≡ false → AddsArg old arg new
    → (out-Command old).has_globals ≡ false → (with_options (app_of new) (drop (i + 1) rows) ≡ with_options (app_of old) (drop i rows)) × ((out-Command new).has_globals ≡ false)
option_added old new arg rows i none below rule local adds free = (
  ap (λ (a : App). with_options a (drop (i + 1) rows)) (adds.shape local ∙ ap (with_rule (app_of old)) rule) ∙ sym (ap (with_options (app_of old)) (from_index rows i none below)),
  rw (adds.globals, free, local) refl,
)

-- a word is added
pub subcommand_added : (old sub new : Command) (word : App) → AddsSubcommand old sub new → Takes word sub → (out-Command old).has_globals ≡ false
    → Takes (with_subcommand (app_of old) word.top) new
subcommand_added old sub new word adds takes free = (
  adds.shape takes.1 ∙ ap (λ (a : App). with_subcommand (app_of old) a.top) takes.0,
  rw (adds.globals, free, takes.1) refl,
)

-- the word of the row at that index is added
pub word_added : (old new : Command) (rows : List CommandRow) (i : ℕ) (none : CommandRow) → i < length rows → Takes (with_subcommand (app_of old) (command_of (get_or rows i none)).top) new
    → (with_commands (app_of new) (drop (i + 1) rows) ≡ with_commands (app_of old) (drop i rows)) × ((out-Command new).has_globals ≡ false)
word_added old new rows i none below takes = (
  ap (λ (a : App). with_commands a (drop (i + 1) rows)) takes.0 ∙ sym (ap (with_commands (app_of old)) (from_index rows i none below)),
  takes.1,
)

-- a command that takes what the table says has its shape
pub taken : {E : Type 0} (r : Result Command E) (word : App) → IfOk r (Takes word) → IfOk r (λ c. app_of c ≡ word)
taken (Ok _) word takes = takes.0
taken (Err _) word takes = takes
