-- What a run executes, item by item: each counts one. (What counts is the profile's own.)
use Rattle.std.specs.Prelude.{ℕ, List, [], ◌∷◌}

-- a line with an instruction, an opening line or a `)`, by its line; an input that a call assigns; the body of a
-- standard block; an item of the block of the text that is called; and an output that a call gives out
pub data Item : Type 0 where
  At : (line : ℕ) → Item
  Argument : Item
  StandardBody : Item
  Called : (item : Item) → Item
  GivenOut : Item

-- the lines that the body itself executes, in order
abbrev pub own_lines : List Item → List ℕ
own_lines [] = []
own_lines (At line ∷ items) = line ∷ own_lines items
own_lines (Argument ∷ items) = own_lines items
own_lines (StandardBody ∷ items) = own_lines items
own_lines (Called item ∷ items) = own_lines items
own_lines (GivenOut ∷ items) = own_lines items
