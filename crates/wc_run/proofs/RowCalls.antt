-- Each row of a log brings what a call brings.
use Rattle.std.proofs.Common.{◌≡◌, refl, ℕ, List, [], ◌∷◌, ◌++◌, ap, sym, append-nil, Option}
use Rattle.wc_model.specs.Definitions.{History, Sample, history_of, line_bytes}
use Rattle.wc_model.specs.Run.ProcessImage.{inputs_of}
use Rattle.wc_run.specs.{EachRowIsACall, Came, Running}

abbrev came_of : History → ℕ → Option Running → List ℕ → Came
came_of history inputs program bytes = record { history = history; bytes = bytes; inputs = inputs; program = program }

-- a row that has no bytes adds none
none_more : (history : History) (inputs : ℕ) (program : Option Running) (bytes : List ℕ) → came_of history inputs program bytes ≡ came_of history inputs program (bytes ++ [])
none_more history inputs program bytes = ap (came_of history inputs program) (sym (append-nil bytes))

pub each_row_is_a_call : EachRowIsACall
each_row_is_a_call =
    record {
      sample = λ past program number ms counts. none_more (Sample counts ∷ history_of past) (inputs_of past) program (line_bytes past);
      bytes = λ past program number ms bytes. refl;
      inputs = λ past program number ms inputs. none_more (history_of past) inputs program (line_bytes past);
      scan = λ past program number ms. none_more (history_of past) (inputs_of past) program (line_bytes past);
      change = λ past program number ms. none_more (history_of past) (inputs_of past) program (line_bytes past);
    }
