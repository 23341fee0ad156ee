-- The rows of a scan, with what is said before and after them, and of a run of which no scan is shown. (The profile's own.)
use Rattle.std.specs.Prelude.{ℕ, zero, suc, Bool, List, ◌++◌, codes, decimal, if◌then◌else◌, ◌≡◌, ⊤, ◌+◌, ◌==◌, nat_lt, ◌&&◌, true, false, [], ◌∷◌, length, Option, Some, None, ℤ, flat_map}
use Rattle.wc_machine.specs.Machines.{MachineState, text_of}
use Rattle.wc_machine.specs.declared.seen.SeenLine.{SeenLine}
use Rattle.wc_model.specs.Language.Paths.{IsProgramBound}
use Rattle.wc_model.specs.declared.block.StandardBlock.{StandardBlock}
use Rattle.wc_view_trace_rows.specs.Items.{IsNumberAt, block_of, last_call, up_to_most}
use Rattle.wc_view_trace_rows.specs.Levels.{Level, level_left, levels_after, said_of}
use Rattle.wc_view_trace_rows.specs.Rows.{Output, outputs_of, row_of}
use Rattle.wc_view_trace_rows.specs.declared.item.Item.{Item}
use Rattle.wc_view_trace_rows.specs.declared.legend.Legend.{Legend}
use Rattle.wc_view_trace_rows.specs.declared.shown_scan.ShownScan.{ShownScan}

-- `scan 3 at 300 ms`, and whether the next program has taken the place of the first
abbrev pub heading : ℕ → ℕ → Bool → List ℕ
heading number ms is_changed =
    codes "scan " ++ (decimal number ++ (codes " at " ++ (decimal ms ++ (if is_changed then codes " ms, next program\n" else codes " ms\n"))))

-- `steps 12 of at most 20`
abbrev pub steps_line : ℕ → ℕ → List ℕ
steps_line steps bound = codes "steps " ++ (decimal steps ++ (codes " of at most " ++ (decimal bound ++ codes "\n")))

-- none of the scans of a run was chosen
abbrev pub none_chosen : ℕ → List ℕ
none_chosen zero = codes "the log has no scan\n"
none_chosen (suc n) = codes "none of " ++ (decimal (suc n) ++ codes " scans is chosen\n")

-- these are the numbers of the first two of these outputs of an instance that begins there
abbrev pub AreNumbers : MachineState → ℕ → List Output → Option ℤ → Option ℤ → Type 0
AreNumbers machine base [] first second = (first ≡ None) × (second ≡ None)
AreNumbers machine base (one ∷ []) first second = IsNumberAt machine (up_to_most (base + one.number)) first × (second ≡ None)
AreNumbers machine base (one ∷ two ∷ outputs) first second =
    IsNumberAt machine (up_to_most (base + one.number)) first × IsNumberAt machine (up_to_most (base + two.number)) second

-- if a scan no longer calls the block, they are shown
abbrev pub AreShown : MachineState → ℕ → List Output → Bool → Option ℤ → Option ℤ → Type 0
AreShown machine base outputs false first second = (first ≡ None) × (second ≡ None)
AreShown machine base outputs true first second = AreNumbers machine base outputs first second

-- the item of that number is the last call in its scan of a standard block whose places are among the first ones, and has its outputs then
abbrev pub is_last_call : ℕ → List SeenLine → ℕ → ℕ → Bool
is_last_call places lines number place = nat_lt place places && last_call place lines == number

abbrev pub HasOutputs : ℕ → MachineState → List SeenLine → ℕ → Option (StandardBlock × ℕ) → Item → Type 0
HasOutputs places machine lines number None item = (item.is_last_call ≡ false) × (item.first ≡ None) × (item.second ≡ None)
HasOutputs places machine lines number (Some found) item =
    (item.is_last_call ≡ is_last_call places lines number found.1) × AreShown machine found.1 (outputs_of found.0) item.is_last_call item.first item.second

-- an item has what is seen of it, what the text says, and the outputs
pub record IsItem (legend : Legend) (machine : MachineState) (lines : List SeenLine) (number : ℕ) (seen : SeenLine) (levels : List Level) (item : Item) : Type 0 where
  pub seen_is : item.seen ≡ seen
  pub said_is : item.said ≡ said_of legend seen (level_left legend seen levels)
  pub outputs : HasOutputs (length legend.kinds.items) machine lines number (block_of seen) item

-- the items of a scan, with count items before them, which leave these bodies
abbrev pub AreItemsFrom : Legend → MachineState → List SeenLine → ℕ → List Level → List SeenLine → List Item → Type 0
AreItemsFrom legend machine lines count levels [] [] = ⊤
AreItemsFrom legend machine lines count levels [] (item ∷ items) = ⊥
AreItemsFrom legend machine lines count levels (seen ∷ rest) [] = ⊥
AreItemsFrom legend machine lines count levels (seen ∷ rest) (item ∷ items) =
    IsItem legend machine lines (count + 1) seen levels item × AreItemsFrom legend machine lines (count + 1) (levels_after legend seen levels) rest items

abbrev pub AreItems : Legend → MachineState → List SeenLine → List Item → Type 0
AreItems legend machine lines items = AreItemsFrom legend machine lines 0 [] lines items

-- each item of a scan is put as a row, in order
abbrev pub AreRows : Legend → MachineState → List SeenLine → List ℕ → List ℕ → Type 0
AreRows legend machine lines old new = (items : List Item) × AreItems legend machine lines items × (new ≡ old ++ flat_map (row_of legend) items)

-- the text of a scan: a heading, a row for each item that it executed, in order, and their number
pub record IsScanText (legend : Legend) (machine : MachineState) (scan : ShownScan) (text : List ℕ) : Type 0 where
  pub items : List Item
  pub are : AreItems legend machine scan.lines.now items
  pub bound : ℕ
  pub bounds : IsProgramBound (text_of machine) bound
  pub is : text ≡ heading scan.number scan.ms scan.is_changed ++ (flat_map (row_of legend) items ++ steps_line (length scan.lines.now) bound)

abbrev pub PutsScan : Legend → MachineState → ShownScan → List ℕ → List ℕ → Type 0
PutsScan legend machine scan old new = (text : List ℕ) × IsScanText legend machine scan text × (new ≡ old ++ text)
