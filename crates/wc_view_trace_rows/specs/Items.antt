-- What is known of the items of a scan. (The profile's own.)
use Rattle.std.specs.Prelude.{◌≡◌, ℕ, ◌+◌, ◌<◌, ◌==◌, Bool, false, List, [], ◌∷◌, length, min, slice_index, Option, Some, None, ℤ, FitsSigned, if◌then◌else◌}
use Rattle.std.specs.Option.{option_map_or}
use Rattle.std.specs.Int.{w32}
use Rattle.wc_text_flat.specs.Contents.{frame_of_text, number_in}
use Rattle.wc_machine.specs.Machines.{MachineState, RepresentsText}
use Rattle.wc_machine.specs.declared.seen.SeenLine.{SeenLine}
use Rattle.wc_model.specs.Definitions.{place_number, Location, Store, Text}
use Rattle.wc_model.specs.declared.block.StandardBlock.{StandardBlock}
use Rattle.wc_model.specs.declared.code.Code.{Code}
use Rattle.wc_model.specs.declared.code.Code.TheVariants.{Standard}

-- what a machine gives as the number of 32 bits at a place is what the store holds there
abbrev pub IsNumberHeld : ℕ → Option ℤ → Option ℤ → Type 0
IsNumberHeld place (Some number) held = held ≡ Some number
IsNumberHeld place None held = place < 65536 → (n : ℤ) → held ≡ Some n → ¬ FitsSigned w32 n

abbrev pub IsNumberAt : MachineState → ℕ → Option ℤ → Type 0
IsNumberAt machine place number =
    (text : Text) (store : Store) (location : Location) → RepresentsText machine text store → place_number (frame_of_text text) location ≡ Some place → IsNumberHeld place number (number_in store location)

-- a sum as far as 64 bits count
abbrev pub up_to_most : ℕ → ℕ
up_to_most n = min n 18446744073709551615

-- the standard block whose body an item is, and the first place of its instance
abbrev pub block_in : ℕ → Code → Option (StandardBlock × ℕ)
block_in base (Standard block at) = Some (block, up_to_most (base + at.0))
block_in base code = None

abbrev pub block_of : SeenLine → Option (StandardBlock × ℕ)
block_of seen = block_in seen.base seen.line

-- an item is a call of the block whose places begin there
abbrev pub is_call_at : ℕ → Option (StandardBlock × ℕ) → Bool
is_call_at place block = option_map_or (λ found. found.1 == place) block false

-- the number, counted on from these, of the last item that is such a call, or this one
abbrev pub last_call_from : ℕ → ℕ → ℕ → List SeenLine → ℕ
last_call_from place count last [] = last
last_call_from place count last (seen ∷ lines) = last_call_from place (count + 1) (if is_call_at place (block_of seen) then count + 1 else last) lines

-- the number of the last item of a scan, counted from 1, that is such a call; 0 if none is
abbrev pub last_call : ℕ → List SeenLine → ℕ
last_call place lines = last_call_from place 0 0 lines

-- for each of these first places the number of the last item that calls a standard block which begins there
pub record AreLastCalls (items : List ℕ) (places : ℕ) (lines : List SeenLine) : Type 0 where
  pub count : length items ≡ places
  pub each : (place : ℕ) → place < places → slice_index items place ≡ last_call place lines
