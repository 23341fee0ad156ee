-- Texts that are refused: the tokens before the fault and those that are left, and where the former stop.
use Rattle.std.specs.Prelude.{ℕ, zero, suc, true, false, List, [], ◌∷◌, ◌++◌, map, flat_map, codes, Some, None}
use Rattle.wc_model.specs.Definitions.{Constant, Step, Load, Lines, End, Plain, Mark, OpeningBracket, Opening, Position}
use Rattle.wc_model.specs.declared.operator.Operator.TheVariants.{And}
use Rattle.wc_model.specs.declared.value.Value.TheVariants.{Bool as BoolValue}
use Rattle.wc_examples_language.specs.Texts.{mark, ident, end_of, program_p, program_of, block_tokens}

-- `LD TRUE`
abbrev pub load_true : Step
load_true = Load false (Constant (BoolValue true))

-- `PROGRAM P / LD TRUE /`
abbrev pub loaded : List Mark
loaded = program_p ++ ident (codes "LD") 2 ∷ ident (codes "TRUE") 2 ∷ end_of 2 ∷ []

-- it stops at the start of line 3, with no parenthesis open
abbrev pub after_load : Position
after_load = record { before = []; unit = program_of End; openings = []; done = Plain None 2 load_true End }

-- `PROGRAM P / LD TRUE / AND( /`
abbrev pub opened : List Mark
opened = loaded ++ ident (codes "AND") 3 ∷ mark OpeningBracket 3 ∷ end_of 3 ∷ []

-- its parenthesis
abbrev pub empty_opening : Opening
empty_opening = record { before = Plain None 2 load_true End; label = None; line = 3; operator = And; operand = None }

-- it stops inside
abbrev pub following_opening : Position
following_opening = record { before = []; unit = program_of End; openings = empty_opening ∷ []; done = End }

-- `PROGRAM P / LD TRUE / AND( TRUE /`
abbrev pub opened_short : List Mark
opened_short = loaded ++ ident (codes "AND") 3 ∷ mark OpeningBracket 3 ∷ ident (codes "TRUE") 3 ∷ end_of 3 ∷ []

-- its parenthesis
abbrev pub short_opening : Opening
short_opening = record empty_opening { operand = Some (Constant (BoolValue true)) }

-- it stops inside
abbrev pub after_short_opening : Position
after_short_opening = record following_opening { openings = short_opening ∷ [] }

-- `PROGRAM P / END_PROGRAM /`
abbrev pub one_program : List Mark
one_program = program_p ++ ident (codes "END_PROGRAM") 2 ∷ end_of 2 ∷ []

-- `AND(` on a line
abbrev pub opening_line : ℕ → List Mark
opening_line line = ident (codes "AND") line ∷ mark OpeningBracket line ∷ end_of line ∷ []

-- `PROGRAM P / LD TRUE /`, `AND(` on the lines 3 to 10, and `AND` on line 11
abbrev pub eight_opened : List Mark
eight_opened = loaded ++ flat_map opening_line (3 ∷ 4 ∷ 5 ∷ 6 ∷ 7 ∷ 8 ∷ 9 ∷ 10 ∷ []) ++ ident (codes "AND") 11 ∷ []

-- a parenthesis that is opened directly after another
abbrev pub inner_opening : ℕ → Opening
inner_opening line = record empty_opening { before = End; line = line }

-- its line starts inside eight parentheses
abbrev pub after_eight_openings : Position
after_eight_openings = record following_opening {
  openings = map inner_opening (10 ∷ 9 ∷ 8 ∷ 7 ∷ 6 ∷ 5 ∷ 4 ∷ []) ++ empty_opening ∷ [];
}

-- `PROGRAM P / JMPNC`
abbrev pub jmpnc_before : List Mark
jmpnc_before = program_p ++ ident (codes "JMPNC") 2 ∷ []

-- `L / END_PROGRAM`
abbrev pub jmpnc_left : List Mark
jmpnc_left = ident (codes "L") 2 ∷ end_of 2 ∷ ident (codes "END_PROGRAM") 3 ∷ []

-- `PROGRAM P / LD`
abbrev pub bare_load_before : List Mark
bare_load_before = program_p ++ ident (codes "LD") 2 ∷ []

-- n lines `LD TRUE`, from this line on
abbrev pub loads : ℕ → ℕ → List Mark
loads line zero = []
loads line (suc n) = ident (codes "LD") line ∷ ident (codes "TRUE") line ∷ end_of line ∷ loads (suc line) n

-- their tree
abbrev pub load_lines : ℕ → ℕ → Lines
load_lines line zero = End
load_lines line (suc n) = Plain None line load_true (load_lines (suc line) n)

-- `PROGRAM P /` and n lines `LD TRUE`
abbrev pub program_of_loads : ℕ → List Mark
program_of_loads n = program_p ++ loads 2 n

-- n function blocks, one after the other
abbrev pub blocks : ℕ → List Mark
blocks zero = []
blocks (suc n) = block_tokens ++ blocks n
