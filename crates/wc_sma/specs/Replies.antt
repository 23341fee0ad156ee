-- What is asked, in the definitions' words, and the bytes of a `Reply`.
use Rattle.wc_model.specs.Instrument.Answers as answers
use Rattle.std.specs.Prelude.{ℕ, List, [], ◌∷◌, ◌++◌, codes}
use Rattle.wc_model.specs.Definitions.{PlateData, History}
use Rattle.wc_sma.specs.declared.answers.Mode.{Mode}
use Rattle.wc_sma.specs.declared.answers.Mode.TheVariants.{Shown, Tare}
use Rattle.wc_sma.specs.declared.answers.RequestOutcome.{RequestOutcome}
use Rattle.wc_sma.specs.declared.answers.RequestOutcome.TheVariants.{Plain, ZeroRefused, TareRefused}
use Rattle.wc_sma.specs.declared.acting.Reply.{Reply}
use Rattle.wc_sma.specs.declared.acting.Reply.TheVariants.{Weight, Unknown}

-- which weight
abbrev pub mode_view : Mode → answers.Mode
mode_view Shown = answers.Shown
mode_view Tare = answers.Tare

-- what the answer is to
abbrev pub asked_view : RequestOutcome → answers.RequestOutcome
asked_view Plain = answers.Plain
asked_view ZeroRefused = answers.ZeroRefused
asked_view TareRefused = answers.TareRefused

-- those of a weight, after this history, or LF, `?`, CR
abbrev pub reply_bytes : PlateData → History → Reply → List ℕ
reply_bytes p history (Weight mode asked) = answers.answer p history (mode_view mode) (asked_view asked)
reply_bytes p history Unknown = 10 ∷ codes "?" ++ (13 ∷ [])
