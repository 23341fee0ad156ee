-- The line's answers: twenty bytes for a weight, and what each command does. The fields, the letters and their order are
-- the profile's own.
use Rattle.std.specs.Prelude.{ℕ, zero, suc, ◌+◌, ◌-◌, ◌/◌, ◌%◌, ◌^◌, not, List, [], ◌∷◌, ◌++◌, length, replicate, codes, decimal, ℤ, unsigned_abs, Option, Some, None, is_some, if◌then◌else◌, bytes_eq}
use Rattle.std.specs.Int.{is_negative}
use Rattle.wc_model.specs.Instrument.Plates.{PlateData}
use Rattle.wc_model.specs.Instrument.WeighingHistories.{SetZero, SetTare, ClearTare, History}
use Rattle.wc_model.specs.Instrument.Indication.{has_sample, is_over, is_under, is_valid, is_stable, is_centre_of_zero, is_tare_active, tare_value, shown, zero_refusal, tare_refusal}

-- the last digits of a number, zeros included
abbrev pub last_digits : ℕ → ℕ → List ℕ
last_digits zero number = []
last_digits (suc count) number = last_digits count (number / 10) ++ ((48 + number % 10) ∷ [])

-- a point and n digits, or nothing for none
abbrev pub fraction_text : ℕ → ℕ → List ℕ
fraction_text zero number = []
fraction_text (suc decimals) number = codes "." ++ last_digits (suc decimals) number

-- `-` before a negative number
abbrev pub minus_of : ℤ → List ℕ
minus_of value = if is_negative value then codes "-" else []

-- a value in units of the last decimal, with n digits after the point and at least one before it
abbrev pub value_text : ℕ → ℤ → List ℕ
value_text decimals value =
    minus_of value ++ decimal (unsigned_abs value / 10 ^ decimals) ++ fraction_text decimals (unsigned_abs value)

-- spaces before a text, up to ten bytes
abbrev pub right_justified : List ℕ → List ℕ
right_justified text = replicate (10 - length text) 32 ++ text

-- ten bytes of weight, and ten `-` without one
abbrev pub weight_text : ℕ → Option ℤ → List ℕ
weight_text decimals None = replicate 10 45
weight_text decimals (Some value) = right_justified (value_text decimals value)

-- which weight is asked for
pub data Mode : Type 0 where
  Shown : Mode
  Tare : Mode

-- what the answer is to: a command that was refused, or anything else
pub data RequestOutcome : Type 0 where
  Plain : RequestOutcome
  ZeroRefused : RequestOutcome
  TareRefused : RequestOutcome

-- the status of the scale: the first that holds
abbrev pub scale_status : PlateData → History → List ℕ
scale_status p history =
    if not (has_sample history) then codes "I"
    else if is_over p history then codes "O"
    else if is_under p history then codes "U"
    else if is_centre_of_zero p history then codes "Z"
    else codes " "

-- the status of an answer: a refusal goes before the scale's
abbrev pub status_byte : PlateData → History → RequestOutcome → List ℕ
status_byte p history Plain = scale_status p history
status_byte p history ZeroRefused = codes "E"
status_byte p history TareRefused = codes "T"

-- gross, net or tare
abbrev pub mode_byte : PlateData → History → Mode → List ℕ
mode_byte p history Shown = if is_tare_active p history then codes "N" else codes "G"
mode_byte p history Tare = codes "T"

-- in motion, or not
abbrev pub motion_byte : PlateData → History → List ℕ
motion_byte p history = if is_stable p history then codes " " else codes "M"

-- the weight that is asked for, if there is an indication
abbrev pub weight_asked : PlateData → History → Mode → Option ℤ
weight_asked p history Shown = shown p history
weight_asked p history Tare = if is_valid p history then Some (tare_value p history) else None

-- the twenty bytes: LF, status, `1`, mode, motion, space, weight, unit, CR
abbrev pub answer : PlateData → History → Mode → RequestOutcome → List ℕ
answer p history mode asked =
    10 ∷ status_byte p history asked ++ codes "1" ++ mode_byte p history mode ++ motion_byte p history ++ codes " "
    ++ weight_text p.decimals (weight_asked p history mode) ++ p.unit ++ (13 ∷ [])

-- what a request asks of the indicator
pub data Command : Type 0 where
  AskWeight : Command
  Zero : Command
  TakeTare : Command
  AskTare : Command
  Clear : Command
  Unknown : Command

-- the command that a request's text spells
abbrev pub command_of : List ℕ → Command
command_of text =
    if bytes_eq text (codes "W") then AskWeight
    else if bytes_eq text (codes "Z") then Zero
    else if bytes_eq text (codes "T") then TakeTare
    else if bytes_eq text (codes "M") then AskTare
    else if bytes_eq text (codes "C") then Clear
    else Unknown

-- the history after a command
abbrev pub after_command : Command → History → History
after_command AskWeight history = history
after_command Zero history = SetZero ∷ history
after_command TakeTare history = SetTare ∷ history
after_command AskTare history = history
after_command Clear history = ClearTare ∷ history
after_command Unknown history = history

-- what an answer to a zero command says
abbrev pub asked_zero : PlateData → History → RequestOutcome
asked_zero p history = if is_some (zero_refusal p history) then ZeroRefused else Plain

-- what an answer to a tare command says
abbrev pub asked_tare : PlateData → History → RequestOutcome
asked_tare p history = if is_some (tare_refusal p history) then TareRefused else Plain

-- the one answer to a command: the indication after it, and whether it was refused by what came before it
abbrev pub answer_to : PlateData → Command → History → List ℕ
answer_to p AskWeight history = answer p history Shown Plain
answer_to p Zero history = answer p (SetZero ∷ history) Shown (asked_zero p history)
answer_to p TakeTare history = answer p (SetTare ∷ history) Shown (asked_tare p history)
answer_to p AskTare history = answer p history Tare Plain
answer_to p Clear history = answer p (ClearTare ∷ history) Shown Plain
answer_to p Unknown history = 10 ∷ codes "?" ++ (13 ∷ [])

-- the history after several requests
abbrev pub after_requests : List (List ℕ) → History → History
after_requests [] history = history
after_requests (text ∷ texts) history = after_requests texts (after_command (command_of text) history)

-- the answers to several requests, joined
abbrev pub answers_to : PlateData → List (List ℕ) → History → List ℕ
answers_to p [] history = []
answers_to p (text ∷ texts) history =
    answer_to p (command_of text) history ++ answers_to p texts (after_command (command_of text) history)
