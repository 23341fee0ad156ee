-- The notes of a text, line by line. (The profile's own.)
use Rattle.std.specs.Prelude.{ℕ, ◌==◌, ◌≤◌, ◌&&◌, nat_le, List, [], filter, length, Option, Some, None, slice_get, slice_range, if◌then◌else◌, All}
use Rattle.std.specs.List.Sorted.{IsNonDecreasingBy}
use Rattle.wc_view_trace_rows.specs.declared.notes.Note.{Note}

-- notes are in the order of their lines
abbrev pub AreInOrder : List Note → Type 0
AreInOrder notes = IsNonDecreasingBy (λ (note : Note). note.line) notes

-- a note, if it is one of that line
abbrev pub of_line : ℕ → Option Note → Option Note
of_line line None = None
of_line line (Some note) = if note.line == line then Some note else None

-- the note of a line of that number among its notes, counted from 0
abbrev pub note_among : List Note → ℕ → ℕ → Option Note
note_among notes line index = slice_get (filter (λ (note : Note). note.line == line) notes) index

-- the part of a text from one byte up to another, if they are in it
abbrev pub part_of : List ℕ → ℕ → ℕ → List ℕ
part_of text from to = if nat_le from to && nat_le to (length text) then slice_range text from to else []

-- the names of notes end among these
abbrev pub AreWithin : List Note → List ℕ → Type 0
AreWithin notes names = All (λ (note : Note). note.end ≤ length names) notes
