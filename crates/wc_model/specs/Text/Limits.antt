-- The limits on units, lines and depth (the profile's own).
use Rattle.std.specs.Prelude.{ℕ, ◌+◌, ◌≤◌, max, List, [], ◌∷◌, length}
use Rattle.std.specs.List.{AllByRecursion}
use Rattle.wc_model.specs.Language.Tree.{Lines, End, Alone, Plain, Nested, ProgramUnit, Text}
use Rattle.wc_model.specs.Text.Positions.{Opening, Position}

-- units in a text
abbrev pub most_units : ℕ
most_units = 64

-- lines in a unit
abbrev pub most_lines : ℕ
most_lines = 1024

-- parentheses in one another
abbrev pub most_depth : ℕ
most_depth = 8

-- one line for each instruction and each `)`; a label alone is not one
abbrev pub line_count : Lines → ℕ
line_count End = 0
line_count (Alone label rest) = line_count rest
line_count (Plain label line step rest) = 1 + line_count rest
line_count (Nested label line operator operand inside close rest) = 2 + line_count inside + line_count rest

-- the nesting depth of parentheses
abbrev pub depth : Lines → ℕ
depth End = 0
depth (Alone label rest) = depth rest
depth (Plain label line step rest) = depth rest
depth (Nested label line operator operand inside close rest) = max (1 + depth inside) (depth rest)

-- a unit's body is not too long, and not too deep
pub record IsBodyWithinLimits (unit : ProgramUnit) : Type 0 where
  pub lines : line_count unit.body ≤ most_lines
  pub depth_of_body : depth unit.body ≤ most_depth

-- no limit is broken
pub record IsWithinLimits (text : Text) : Type 0 where
  pub units : length text ≤ most_units
  pub bodies : AllByRecursion IsBodyWithinLimits text

-- the lines up to the innermost opening line
abbrev pub lines_opened : List Opening → ℕ
lines_opened [] = 0
lines_opened (innermost ∷ outer) = lines_opened outer + line_count innermost.before + 1

-- the lines of the unit that precede a place in its body
abbrev pub lines_before : Position → ℕ
lines_before p = lines_opened p.openings + line_count p.done
