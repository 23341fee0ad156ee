-- The first job: a plate, the program that copies an input to an output, and a log of two rows.
use Rattle.std.specs.Prelude.{ℕ, List, [], ◌∷◌, ◌++◌, pos, codes}
use Rattle.wc_examples_instrument.specs.Worked.{lines_text, plate_text, plate_table}
use Rattle.wc_model.specs.Definitions.{Record, Table, Token}
use Rattle.wc_model.specs.Text.Shapes.{Shape, Identifier, Address, LineEnd}

-- the program's section
abbrev pub program_bytes : List ℕ
program_bytes = lines_text (codes "PROGRAM P" ∷ codes "LD %IX0.0" ∷ codes "ST %QX0.0" ∷ codes "END_PROGRAM" ∷ [])

-- a token of this shape and text, at this place and line
abbrev pub token : Shape → List ℕ → ℕ → ℕ → Token
token shape text start line = record { shape = shape; text = text; start = start; line = line }

-- its tokens
abbrev pub program_tokens : List Token
program_tokens =
    token Identifier (codes "PROGRAM") 0 1 ∷ token Identifier (codes "P") 8 1 ∷ token LineEnd (10 ∷ []) 9 1
    ∷ token Identifier (codes "LD") 10 2 ∷ token Address (codes "%IX0.0") 13 2 ∷ token LineEnd (10 ∷ []) 19 2
    ∷ token Identifier (codes "ST") 20 3 ∷ token Address (codes "%QX0.0") 23 3 ∷ token LineEnd (10 ∷ []) 29 3
    ∷ token Identifier (codes "END_PROGRAM") 30 4 ∷ token LineEnd (10 ∷ []) 41 4 ∷ []

-- the log's section, and its records
abbrev pub log_bytes : List ℕ
log_bytes = lines_text (codes "ms,kind,data" ∷ codes "0,I,0001" ∷ codes "0,S," ∷ [])

abbrev pub log_records : List Record
log_records = (codes "ms" ∷ codes "kind" ∷ codes "data" ∷ []) ∷ (codes "0" ∷ codes "I" ∷ codes "0001" ∷ []) ∷ (codes "0" ∷ codes "S" ∷ [] ∷ []) ∷ []

-- the plate's table
abbrev pub table : Table
table = plate_table (codes "kg") (pos 3) (pos 15000) (pos 5) (pos 600000)

-- the job
abbrev pub job_bytes : List ℕ
job_bytes = lines_text (codes "@plate" ∷ []) ++ plate_text ++ lines_text (codes "@program" ∷ []) ++ program_bytes ++ lines_text (codes "@log" ∷ []) ++ log_bytes
