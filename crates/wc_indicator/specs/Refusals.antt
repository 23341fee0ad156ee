-- What an answer to a command says of the refusal.
use Rattle.std.specs.Prelude.{Option, Some, None, Result, Ok, Err}
use Rattle.wc_model.specs.Instrument.Indication.{CommandRefusal}
use Rattle.wc_model.specs.Instrument.Indication as indication
use Rattle.wc_indicator.specs.declared.refused.Refused.{Refused}
use Rattle.wc_indicator.specs.declared.refused.Refused.TheVariants.{Motion, Range}

-- the definition's word for each reason
abbrev pub reason : Refused → CommandRefusal
reason Motion = indication.Motion
reason Range = indication.Range

-- why, if there is a reason
abbrev pub reported_by : Option Refused → Option CommandRefusal
reported_by None = None
reported_by (Some refused) = Some (reason refused)

-- what an answer says: `Ok` that the command was accepted
abbrev pub refusal_view : {T : Type 0} → Result T Refused → Option CommandRefusal
refusal_view (Ok _) = None
refusal_view (Err refused) = Some (reason refused)
