-- The requests of the line with their answers, and what they count. (The profile's own.)
use Rattle.std.specs.Prelude.{◌≡◌, ℕ, ◌+◌, Bool, true, false, List, [], ◌∷◌, Option, Some, None, All, map, drop, length}
use Rattle.std.specs.Option.{option_map_or}
use Rattle.wc_model.specs.Instrument.Answers.{command_of}
use Rattle.wc_sma.specs.Seen.{command_view}
use Rattle.wc_sma.specs.declared.command.Command.{Command}
use Rattle.wc_sma.specs.declared.command.Command.TheVariants.{Zero, TakeTare, Clear}
use Rattle.wc_sma.specs.declared.letters.Status.{Status}
use Rattle.wc_sma.specs.declared.letters.Status.TheVariants.{ZeroRefused, TareRefused}
use Rattle.wc_view_columns.specs.Rows.{counted, AreTogether, nothing}
use Rattle.wc_view_columns.specs.declared.events.Events.{Events}
use Rattle.wc_view_columns.specs.declared.events.Request.{Request}
use Rattle.wc_view_decode.specs.AnswerBytes.{answer_bytes, IsFirstAnswer}
use Rattle.wc_view_decode.specs.declared.answer.LineAnswer.{LineAnswer}
use Rattle.wc_view_decode.specs.declared.answer.LineAnswer.TheVariants.{Weight, NotUnderstood}

-- whether a status says that the command of its answer was refused
abbrev pub is_refused : Status → Bool
is_refused ZeroRefused = true
is_refused TareRefused = true
is_refused status = false

-- whether an answer says so
abbrev pub is_refusal : Option LineAnswer → Bool
is_refusal None = false
is_refusal (Some NotUnderstood) = false
is_refusal (Some (Weight reading)) = is_refused reading.status

-- what happened and a request of a command, by whether its answer refuses it: it counts as it does, and nothing else changes
abbrev pub marked_by : ℕ → Command → Bool → Events → Events
marked_by ms Zero false old = record old { zeros = counted (old.zeros + 1); marked = Some ms }
marked_by ms Zero true old = record old { zeros_refused = counted (old.zeros_refused + 1); marked = Some ms }
marked_by ms TakeTare false old = record old { tares = counted (old.tares + 1); marked = Some ms }
marked_by ms TakeTare true old = record old { tares_refused = counted (old.tares_refused + 1); marked = Some ms }
marked_by ms Clear refused old = record old { clears = counted (old.clears + 1); marked = Some ms }
marked_by ms command refused old = old

abbrev pub IsMarked : ℕ → Command → Bool → Events → Events → Type 0
IsMarked ms command refused old new = new ≡ marked_by ms command refused old

-- what a request is alone; what some count, and nothing else: no change and no scan
abbrev pub made_by : Request → Events
made_by r = record (marked_by r.ms r.command (is_refusal r.answer) nothing) { requests = 1; last = Some r }

abbrev pub AreCounted : List Request → Events → Type 0
AreCounted made events = AreTogether (map made_by made) events

-- the bytes after an answer, if one could be read
abbrev pub after_answer : Option LineAnswer → List ℕ → List ℕ
after_answer answer bytes = option_map_or (λ read. drop (length (answer_bytes read)) bytes) answer bytes

-- the answers of some requests come first in these bytes, one after the other, and those bytes are left
abbrev pub AreAnswered : List Request → List ℕ → List ℕ → Type 0
AreAnswered [] bytes left = bytes ≡ left
AreAnswered (request ∷ requests) bytes left =
    IsFirstAnswer request.answer bytes × AreAnswered requests (after_answer request.answer bytes) left

-- Requests of these texts came at one time, their answers are read from these bytes up to a place, and this is what they count.
pub record HasFollowed (ms : ℕ) (texts : List (List ℕ)) (answers : List ℕ) (at : ℕ) (events : Events) : Type 0 where
  pub requests : List Request
  pub commands : map (λ r. command_view r.command) requests ≡ map command_of texts
  pub times : All (λ (r : Request). r.ms ≡ ms) requests
  pub answered : AreAnswered requests answers (drop at answers)
  pub counts : AreCounted requests events
