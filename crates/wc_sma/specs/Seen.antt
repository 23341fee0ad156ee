-- What the line keeps of a request's text so far, and the command of it.
use Rattle.std.specs.Prelude.{ℕ, List, [], ◌∷◌, ◌==◌, Option, None, if◌then◌else◌}
use Rattle.wc_model.specs.Instrument.Requests.{carriage_return}
use Rattle.wc_model.specs.Instrument.Answers as answers
use Rattle.wc_sma.specs.declared.command.RequestStart.{RequestStart}
use Rattle.wc_sma.specs.declared.command.RequestStart.TheVariants.{Nothing, One, More}
use Rattle.wc_sma.specs.declared.command.Command.{Command}
use Rattle.wc_sma.specs.declared.command.Command.TheVariants.{AskWeight, Zero, TakeTare, AskTare, Clear, Unknown}

-- no byte, one, or more
abbrev pub seen_in : List ℕ → RequestStart
seen_in [] = Nothing
seen_in (byte ∷ []) = One byte
seen_in (byte ∷ next ∷ rest) = More

-- the definition's word for a command
abbrev pub command_view : Command → answers.Command
command_view AskWeight = answers.AskWeight
command_view Zero = answers.Zero
command_view TakeTare = answers.TakeTare
command_view AskTare = answers.AskTare
command_view Clear = answers.Clear
command_view Unknown = answers.Unknown

-- the command of a text of which this is known
abbrev pub asked_by : RequestStart → answers.Command
asked_by Nothing = answers.Unknown
asked_by (One byte) = answers.command_of (byte ∷ [])
asked_by More = answers.Unknown

-- the open request, if this byte completes it
abbrev pub completes : ℕ → Option (List ℕ) → Option (List ℕ)
completes byte text = if byte == carriage_return then text else None
