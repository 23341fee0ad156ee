-- What people read of an answer. (The words are the profile's own.)
use Rattle.std.specs.Prelude.{ℕ, ◌==◌, Bool, true, false, List, [], ◌++◌, drop, codes}
use Rattle.std.specs.List.{prefix_len}
use Rattle.wc_view_decode.specs.declared.answer.LineAnswer.{LineAnswer}
use Rattle.wc_view_decode.specs.declared.answer.LineAnswer.TheVariants.{Weight, NotUnderstood}
use Rattle.wc_sma.specs.declared.letters.MassUnit.{MassUnit}
use Rattle.wc_sma.specs.declared.letters.MassUnit.TheVariants.{Gram, Kilogram, Tonne}
use Rattle.wc_sma.specs.declared.letters.Status.{Status}
use Rattle.wc_sma.specs.declared.letters.Status.TheVariants.{Normal, CentreOfZero, Over, Under, NoSample, ZeroRefused, TareRefused}
use Rattle.wc_sma.specs.declared.letters.WeightKind.{WeightKind}
use Rattle.wc_sma.specs.declared.letters.WeightKind.TheVariants.{Gross, Net, Tare}

-- the symbol of a unit
abbrev pub unit_text : MassUnit → List ℕ
unit_text Gram = codes "g"
unit_text Kilogram = codes "kg"
unit_text Tonne = codes "t"

-- which weight it is
abbrev pub kind_text : WeightKind → List ℕ
kind_text Gross = codes " gross, "
kind_text Net = codes " net, "
kind_text Tare = codes " tare, "

-- whether it moves
abbrev pub motion_text : Bool → List ℕ
motion_text true = codes "stable"
motion_text false = codes "in motion"

-- the status, if there is something to say
abbrev pub status_text : Status → List ℕ
status_text Normal = []
status_text CentreOfZero = codes ", centre of zero"
status_text Over = codes ", over"
status_text Under = codes ", under"
status_text NoSample = codes ", no sample"
status_text ZeroRefused = codes ", zero refused"
status_text TareRefused = codes ", tare refused"

-- a weight without the spaces before it
abbrev pub without_spaces : List ℕ → List ℕ
without_spaces weight = drop (prefix_len (λ byte. byte == 32) weight) weight

-- the words for an answer
abbrev pub answer_text : LineAnswer → List ℕ
answer_text (Weight reading) =
    without_spaces reading.weight ++ codes " " ++ unit_text reading.unit ++ kind_text reading.kind ++ motion_text reading.is_stable
    ++ status_text reading.status
answer_text NotUnderstood = codes "not understood"
