-- What the rows of this crate represent, and what their answers say.
use Rattle.std.specs.Prelude.{◌≡◌, ◌≤◌, ◌<◌, ◌^◌, ◌≤ℤ◌, ⊤, ℕ, List, length, [], ◌∷◌, Option, Some, None, Result, Ok, Err, IfOk}
use Rattle.wc_model.specs.Definitions.{Record, least_sample, greatest_sample, RowData, LogRow, Counts, Bytes, Inputs, Scan, Change}
use Rattle.wc_record.specs.declared.row_data.RowFields.{RowFields}
use Rattle.wc_record.specs.declared.row_head.HeadKind.{HeadKind}
use Rattle.wc_record.specs.declared.row_head.HeadKind.TheVariants as head
use Rattle.wc_record.specs.declared.row_head.RowHead.{RowHead}
use Rattle.wc_record.specs.declared.row_kind.Row.{Row}
use Rattle.wc_record.specs.declared.row_kind.RowKind.{RowKind}
use Rattle.wc_record.specs.declared.row_kind.RowKind.TheVariants as kind
use Rattle.wc_record.specs.declared.row_data.RowFault.{RowFault}
use Rattle.wc_record.specs.declared.row_data.RowFault.TheVariants.{Refused, Memory}

-- what a row brings
abbrev pub data_view : RowKind → RowData
data_view (kind.Counts counts) = Counts counts
data_view (kind.Bytes bytes) = Bytes bytes.items
data_view (kind.Inputs inputs) = Inputs inputs
data_view kind.Scan = Scan
data_view kind.Change = Change

-- the row of the log
abbrev pub row_view : Row → LogRow
row_view row = record { number = row.number; ms = row.ms; brings = data_view row.kind }

-- what a row of that kind brings, if these are the bytes that are borrowed with it
abbrev pub head_data_view : List ℕ → HeadKind → RowData
head_data_view bytes (head.Counts counts) = Counts counts
head_data_view bytes head.Bytes = Bytes bytes
head_data_view bytes (head.Inputs inputs) = Inputs inputs
head_data_view bytes head.Scan = Scan
head_data_view bytes head.Change = Change

-- the row of the log with that head, if these are the bytes that are borrowed with it
abbrev pub head_view : List ℕ → RowHead → LogRow
head_view bytes row = record { number = row.number; ms = row.ms; brings = head_data_view bytes row.kind }

-- what a row brings is in its range
abbrev pub IsDataInRange : RowData → Type 0
IsDataInRange (Counts counts) = (least_sample ≤ℤ counts) × (counts ≤ℤ greatest_sample)
IsDataInRange (Bytes bytes) = length bytes ≤ 4096
IsDataInRange (Inputs inputs) = inputs < 2 ^ 16
IsDataInRange Scan = ⊤
IsDataInRange Change = ⊤

-- the answer, with these bytes, says what is said, if memory was not refused
abbrev pub SaysData : List ℕ → Result HeadKind RowFault → Result RowData ℕ → Type 0
SaysData bytes (Ok kind) said = said ≡ Ok (head_data_view bytes kind)
SaysData bytes (Err (Refused number)) said = said ≡ Err number
SaysData bytes (Err Memory) said = ⊤

-- the answer says what is said, whatever bytes are in the buffer
abbrev pub Says : Result HeadKind RowFault → Result RowData ℕ → Type 0
Says answer said = (bytes : List ℕ) → SaysData bytes answer said

-- what the answer brings is in its range, whatever bytes are in the buffer
abbrev pub BringsInRange : Result HeadKind RowFault → Type 0
BringsInRange answer = (bytes : List ℕ) → IfOk answer (λ kind. IsDataInRange (head_data_view bytes kind))

-- the answer, with these bytes, says what is said of a whole row, if memory was not refused
abbrev pub SaysRow : List ℕ → Result RowHead RowFault → Result LogRow ℕ → Type 0
SaysRow bytes (Ok row) said = said ≡ Ok (head_view bytes row)
SaysRow bytes (Err (Refused number)) said = said ≡ Err number
SaysRow bytes (Err Memory) said = ⊤

-- three fields
abbrev pub fields_view : RowFields → Record
fields_view fields = fields.moment.now ∷ fields.kind.now ∷ fields.text.now ∷ []

-- a record of three fields
abbrev pub three_of : Record → Option Record
three_of [] = None
three_of (a ∷ []) = None
three_of (a ∷ b ∷ []) = None
three_of (a ∷ b ∷ c ∷ []) = Some (a ∷ b ∷ c ∷ [])
three_of (a ∷ b ∷ c ∷ d ∷ more) = None
