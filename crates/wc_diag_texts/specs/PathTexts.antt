-- What is said of the paths to a label at which no result is defined, and what to write there. (The profile's own.)
use Rattle.std.specs.Prelude.{ℕ, List, ◌++◌, codes, decimal}
use Rattle.wc_diag_texts.specs.declared.paths.Paths.{Paths}
use Rattle.wc_diag_texts.specs.declared.paths.Paths.TheVariants.{Two, Empty, Unsure, None}

-- that there is no one type: which line brings what to a label, or that no path leads there
abbrev pub paths_text : Paths → List ℕ
paths_text (Two label first brought other different) =
    codes "the current result is undefined: line "
    ++ (decimal first ++ (codes " brings " ++ (brought.now ++ (codes " to `" ++ (label.now
    ++ (codes "`, line " ++ (decimal other ++ (codes " brings " ++ different.now))))))))
paths_text (Empty label line) =
    codes "the current result is undefined: line "
    ++ (decimal line ++ (codes " brings no value to `" ++ (label.now ++ codes "`")))
paths_text (Unsure label line) =
    codes "the current result is undefined: the paths to `"
    ++ (label.now ++ (codes "` (line " ++ (decimal line ++ codes ") bring different types, or no value")))
paths_text (None label) =
    codes "there is no current result: neither a jump nor the line above leads to `" ++ (label.now ++ codes "`")

-- where a value is to be loaded: above the line that brings none, or below the label
abbrev pub empty_path_advice : ℕ → List ℕ
empty_path_advice line =
    codes "write an LD above line " ++ (decimal line ++ codes ", or between the label and this instruction")
