-- What the scans of a text show, one after another, each from the store that the one before left.
use Rattle.std.specs.Prelude.{ℕ, List, [], ◌∷◌, ℤ, pos}
use Rattle.wc_model.specs.Definitions.{Outcome, Done, Stuck, scan_of, initial_of, output_bits, output_words, steps_of, Store, Text}
use Rattle.wc_model.specs.declared.image.Image.{Image}

-- a scan at a moment, with the digital inputs that it sees
pub record Scan : Type 0 where
  pub moment : ℕ
  pub inputs : ℕ

-- the steps of a scan, and the output bits and words that it leaves
pub record Shown : Type 0 where
  pub steps : ℕ
  pub bits : ℕ
  pub words : List ℤ

-- an image with these digital inputs and nothing on the scale
abbrev pub inputs_alone : ℕ → Image
inputs_alone inputs = record { inputs = inputs; status = 0; weights = pos 0 ∷ pos 0 ∷ pos 0 ∷ [] }

-- one scan, and then the others; a scan that is stuck shows nothing more
abbrev pub shown_after : Outcome → (Store → List Shown) → List Shown
shown_after (Done result store trace) others = record { steps = steps_of (Done result store trace); bits = output_bits store; words = output_words store } ∷ others store
shown_after (Stuck reason) others = []

abbrev pub shown_from : Text → List Scan → Store → List Shown
shown_from text [] store = []
shown_from text (scan ∷ scans) store = shown_after (scan_of text store (inputs_alone scan.inputs) scan.moment) (shown_from text scans)

-- the scans of a text from its initial store
abbrev pub shown_by : Text → List Scan → List Shown
shown_by text scans = shown_from text scans (initial_of text)

-- a scan, and what it shows
abbrev pub scan : ℕ → ℕ → Scan
scan moment inputs = record { moment = moment; inputs = inputs }

-- what a scan shows, with these four words
abbrev pub shows : ℕ → ℕ → ℤ → ℤ → Shown
shows steps bits first second = record { steps = steps; bits = bits; words = first ∷ second ∷ pos 0 ∷ pos 0 ∷ [] }
