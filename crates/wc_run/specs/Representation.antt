-- What a scale represents while a log is run: each row does what a call does. (The profile's own.)
use Rattle.wc_run.specs.OpenScales as open_scale
use Rattle.std.specs.Prelude.{◌≡◌, ℕ, List, ◌∷◌, ◌++◌, Option, ℤ, ⊤, Some, None}
use Rattle.wc_model.specs.Run.ProcessImage.{inputs_of}
use Rattle.wc_model.specs.Definitions.{Bytes, Change, Counts, Inputs, Past, RowData, Scan, history_of, line_bytes, PlateData, Logic}
use Rattle.wc_cost.specs.LoadedTexts.{LoadedText}
use Rattle.wc_run.specs.Coming.{with_bytes, with_inputs, with_sample}
use Rattle.wc_run.specs.OpenScales.{Came, Running}
use Rattle.wc_run.specs.Logics.{logic_after, text_of_next}
use Rattle.wc_run.specs.declared.log_scale.LogScale.{LogScale}

-- what rows have brought, with a program or none
abbrev pub came_by : Past → Option Running → Came
came_by past program = record { history = history_of past; bytes = line_bytes past; inputs = inputs_of past; program = program }

-- one row more
abbrev pub one_more : ℕ → ℕ → RowData → Past → Past
one_more number ms brings past = record { number = number; ms = ms; brings = brings } ∷ past

-- a row brings what its call brings, and a row of a scan or of a change nothing but what comes of the program
pub record EachRowIsACall : Type 0 where
  pub sample : (past : Past) (program : Option Running) (number ms : ℕ) (counts : ℤ) →
      with_sample counts (came_by past program) ≡ came_by (one_more number ms (Counts counts) past) program
  pub bytes : (past : Past) (program : Option Running) (number ms : ℕ) (bytes : List ℕ) →
      with_bytes bytes (came_by past program) ≡ came_by (one_more number ms (Bytes bytes) past) program
  pub inputs : (past : Past) (program : Option Running) (number ms inputs : ℕ) →
      with_inputs inputs (came_by past program) ≡ came_by (one_more number ms (Inputs inputs) past) program
  pub scan : (past : Past) (program : Option Running) (number ms : ℕ) → came_by past program ≡ came_by (one_more number ms Scan past) program
  pub change : (past : Past) (program : Option Running) (number ms : ℕ) → came_by past program ≡ came_by (one_more number ms Change past) program

-- bytes bring the same, however they are cut
abbrev pub BytesAreCutAnywhere : Type 0
BytesAreCutAnywhere = (first second : List ℕ) (came : Came) → with_bytes second (with_bytes first came) ≡ with_bytes (first ++ second) came

-- the program of the logic, if there is one
abbrev pub program_of : Option Logic → Option Running
program_of None = None
program_of (Some logic) = Some (record { text = logic.text; store = logic.store })

-- what is loaded represents the next text; with no program nothing is said of it
abbrev pub IsNext : Option LoadedText → Option Logic → Type 0
IsNext next None = ⊤
IsNext next (Some logic) = text_of_next next ≡ logic.next

-- the scale represents a plate, the logic with which it began, and the rows so far: the open scale what they have brought
-- with the logic after them, and what is loaded the next text
pub record Represents {S : Type 0} (scale : LogScale S) (plate : PlateData) (logic : Option Logic) (past : Past) : Type 0 where
  pub opened : open_scale.Represents scale.opened plate (came_by past (program_of (logic_after plate logic past)))
  pub next : IsNext scale.next (logic_after plate logic past)

-- no scan so far was after this moment
abbrev pub IsNotAfter : {S : Type 0} → LogScale S → ℕ → Type 0
IsNotAfter scale ms = open_scale.IsNotAfter scale.opened ms
