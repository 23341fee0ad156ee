-- Laws of the grammar: tokens spell a text within the limits or have a first fault, never both, and one text at most.
use Rattle.std.specs.Prelude.{◌≡◌, ℕ, List, ◌⊎◌}
use Rattle.wc_model.specs.Definitions.{Spells, IsWithinLimits, Mark, ReadingFault, IsFirstReadingFault, Text}

-- tokens spell one text at most
abbrev pub OneText : Type 0
OneText = (tokens : List Mark) (text other : Text) → Spells tokens text → Spells tokens other → text ≡ other

-- tokens spell a text within the limits, or have a first fault
abbrev pub TextOrFault : Type 0
TextOrFault = (tokens : List Mark) (last_line : ℕ) → ((text : Text) × Spells tokens text × IsWithinLimits text) ⊎ ((fault : ReadingFault) × (line : ℕ) × IsFirstReadingFault tokens last_line fault line)

-- tokens that have a first fault spell no text within the limits
abbrev pub FaultSpellsNothing : Type 0
FaultSpellsNothing = (tokens : List Mark) (last_line line : ℕ) (fault : ReadingFault) (text : Text) → IsFirstReadingFault tokens last_line fault line → Spells tokens text → ¬ (IsWithinLimits text)

-- two first faults of the same tokens are the same fault, on the same line: a reader that answers by them has no choice
abbrev pub OneFirstFault : Type 0
OneFirstFault =
    (tokens : List Mark) (last_line line place : ℕ) (fault other : ReadingFault) → IsFirstReadingFault tokens last_line fault line
    → IsFirstReadingFault tokens last_line other place → (fault ≡ other) × (line ≡ place)
