-- One scan: the process image is written to the inputs, the program's body is executed, and the outputs are read. (The
-- profile's own; the standard leaves to the implementer when inputs and outputs are moved.)
use Rattle.std.specs.Prelude.{ℕ, ◌*◌, ◌/◌, ◌%◌, ◌^◌, ◌==◌, Bool, true, List, [], ◌∷◌, ◌++◌, map, reverse, length, sum, Some, None, Result, Ok, ℤ, pos, slice_index_or}
use Rattle.wc_model.specs.Language.DirectVariables.{InputBit, StatusBit, Weight, OutputBit, OutputWord, numbers_below}
use Rattle.wc_model.specs.Language.Meaning.{Outcome, Done, Stuck, program_means}
use Rattle.wc_model.specs.Language.Reasons.{Reason, NoSuchPlace}
use Rattle.wc_model.specs.Language.Store.{Location, Direct, Content, Plain, Store, store_of, initial_store, value_at}
use Rattle.wc_model.specs.Language.Tree.{ProgramUnit, Text}
use Rattle.wc_model.specs.declared.image.Image.{Image}
use Rattle.wc_model.specs.declared.image.Outputs.{Outputs}
use Rattle.wc_model.specs.declared.value.Value.{Value}
use Rattle.wc_model.specs.declared.value.Value.TheVariants.{Bool as Truth, Dint}

-- whether bit i of a number is 1
abbrev pub is_bit_set : ℕ → ℕ → Bool
is_bit_set n i = n / 2 ^ i % 2 == 1

-- what the image puts at the inputs
abbrev pub image_contents : Image → List (Location × Content)
image_contents image =
    map (λ i. (Direct (InputBit i), Plain (Truth (is_bit_set image.inputs i)))) (numbers_below 16)
    ++ map (λ i. (Direct (StatusBit i), Plain (Truth (is_bit_set image.status i)))) (numbers_below 6)
    ++ map (λ i. (Direct (Weight i), Plain (Dint (slice_index_or image.weights i (pos 0))))) (numbers_below 3)

-- the store with these contents in place of its own
abbrev pub overlaid : List (Location × Content) → Store → Store
overlaid entries store = λ place. elim (store_of entries place) [ Some content ↦ Some content | None ↦ store place ]

-- the store with the image at its inputs
abbrev pub with_image : Image → Store → Store
with_image image store = overlaid (image_contents image) store

-- the units of a text that precede the program, newest first
abbrev pub first_of_reversed : List ProgramUnit → (List ProgramUnit → ProgramUnit → Outcome) → Outcome
first_of_reversed [] go = Stuck NoSuchPlace
first_of_reversed (program ∷ before) go = go before program

-- the meaning of a scan at a moment
abbrev pub scan_of : Text → Store → Image → ℕ → Outcome
scan_of text store image now = first_of_reversed (reverse text) (λ before program. program_means before program now (with_image image store))

-- the store of a text's declarations
abbrev pub initial_of_reversed : List ProgramUnit → Store
initial_of_reversed [] = λ place. None
initial_of_reversed (program ∷ before) = initial_store before program

abbrev pub initial_of : Text → Store
initial_of text = initial_of_reversed (reverse text)

-- the steps of an outcome: the number of items its trace has
abbrev pub steps_of : Outcome → ℕ
steps_of (Done result store trace) = length trace
steps_of (Stuck reason) = 0

-- an output bit as 0 or 1
abbrev pub bit_of : Result Value Reason → ℕ
bit_of (Ok (Truth true)) = 1
bit_of other = 0

-- an output word
abbrev pub word_of : Result Value Reason → ℤ
word_of (Ok (Dint n)) = n
word_of other = pos 0

-- the output bits and words of a store
abbrev pub output_bits : Store → ℕ
output_bits store = sum (map (λ i. 2 ^ i * bit_of (value_at store (Direct (OutputBit i)))) (numbers_below 16))

abbrev pub output_words : Store → List ℤ
output_words store = map (λ i. word_of (value_at store (Direct (OutputWord i)))) (numbers_below 4)

abbrev pub outputs_of : Store → Outputs
outputs_of store = record { bits = output_bits store; words = output_words store }
