-- A row of a log as a message shows it, and the field that its refusal means. The profile's own.
use Rattle.std.specs.Prelude.{◌≤◌, ℕ, zero, suc, ◌+◌, ◌==◌, ◌||◌, List, [], ◌∷◌, ◌++◌, Option, Some, None, IfSome, flat_map, length, take, unwrap_or, if◌then◌else◌}
use Rattle.csv.specs.Records.{field_at}
use Rattle.wc_diag_spans.specs.declared.diagnostic.Span.{Span}
use Rattle.wc_model.specs.Run.Log.{Record}

-- as much of a field as is shown
abbrev pub cut_field : List ℕ → List ℕ
cut_field field = take 16384 field

-- a field as it is shown; nothing after the last
abbrev pub shown_field : Record → ℕ → List ℕ
shown_field fields place = cut_field (unwrap_or (field_at fields place) [])

-- a field after another
abbrev pub after_comma : List ℕ → List ℕ
after_comma field = 44 ∷ cut_field field

-- a field after a number of others: there is a comma before it, unless it is the first
abbrev pub glued : ℕ → List ℕ → List ℕ
glued zero field = field
glued (suc before) field = 44 ∷ field

-- fields with commas between
abbrev pub joined : Record → List ℕ
joined [] = []
joined (first ∷ rest) = cut_field first ++ flat_map after_comma rest

-- a row as it is shown: its fields, up to 128, with commas between. A message shows fewer bytes than that number of commas
abbrev pub shown_row : Record → List ℕ
shown_row fields = joined (take 128 fields)

-- where a field starts among those that are shown
abbrev pub field_start : Record → ℕ → ℕ
field_start fields zero = 0
field_start fields (suc zero) = length (shown_field fields 0) + 1
field_start fields (suc (suc place)) = length (shown_field fields 0) + 1 + length (shown_field fields 1) + 1

-- the field that a refusal means: of 602 and 603 the moment, of 604 and 609 the kind, of 605, 606 and 608 the data
abbrev pub offending_field : ℕ → Option ℕ
offending_field number =
    if (number == 602) || (number == 603) then Some 0
    else if (number == 604) || (number == 609) then Some 1
    else if (number == 605) || (number == 606) || (number == 608) then Some 2
    else None

-- the span begins in that field, or where it ends
abbrev pub IsInField : Record → ℕ → Span → Type 0
IsInField fields place span =
    (field_start fields place ≤ span.start) × (span.start ≤ field_start fields place + length (shown_field fields place))

-- the span begins in the offending field
abbrev pub MeansField : ℕ → Record → Span → Type 0
MeansField number fields span = IfSome (offending_field number) (λ place. IsInField fields place span)
