-- What a legend says: the lines of the text, what they name, and the kinds of the program's places. (No rule of the language.)
use Rattle.std.specs.Prelude.{◌≡◌, ℕ, zero, suc, ◌+◌, ◌-◌, ◌==◌, List, [], ◌∷◌, Option, option_and_then, slice_get, if◌then◌else◌}
use Rattle.std.specs.Option.{option_map_or, option_zip}
use Rattle.wc_built_in.specs.Fields.{value_kind}
use Rattle.wc_model.specs.Definitions.{frame_of_text, slot_kinds, Text}
use Rattle.wc_model.specs.declared.kind.Kind.{Kind}
use Rattle.wc_view_trace_rows.specs.Named.{notes_named, text_named}
use Rattle.wc_view_trace_rows.specs.Notes.{note_among, part_of}
use Rattle.wc_view_trace_rows.specs.declared.legend.Legend.{Legend}
use Rattle.wc_view_trace_rows.specs.declared.notes.Note.{Note}

-- where the lines of a text start, with n bytes before it, and where one would start after the last
abbrev pub starts_from : ℕ → List ℕ → List ℕ
starts_from n [] = (n + 1) ∷ []
starts_from n (byte ∷ bytes) = if byte == 10 then (n + 1) ∷ starts_from (n + 1) bytes else starts_from (n + 1) bytes

abbrev pub line_starts : List ℕ → List ℕ
line_starts bytes = 0 ∷ starts_from 0 bytes

-- a legend is that of a text with these bytes: it has them, where their lines start, what they name, and the kinds of the program's
-- places
pub record IsLegendOf (legend : Legend) (bytes : List ℕ) (text : Text) : Type 0 where
  pub text_is : legend.text.items ≡ bytes
  pub starts_are : legend.starts.items ≡ line_starts bytes
  pub named_are : notes_named legend.notes ≡ text_named text
  pub kinds_are : legend.kinds.items ≡ slot_kinds (frame_of_text text)

-- the line of that number, counted from 1: it begins where the legend says, and ends before the byte before the next one
abbrev pub line_of : Legend → ℕ → List ℕ
line_of legend zero = []
line_of legend (suc n) =
    option_map_or (λ p. part_of legend.text.items p.0 (p.1 - 1)) (option_zip (slice_get legend.starts.items n) (slice_get legend.starts.items (suc n))) []

-- the kind of the values that a place holds
abbrev pub kind_at : Legend → ℕ → Option Kind
kind_at legend place = option_and_then value_kind (slice_get legend.kinds.items place)

abbrev pub note_of : Legend → ℕ → ℕ → Option Note
note_of legend line index = note_among legend.notes.notes.items line index

-- the name that a note speaks of
abbrev pub name_of : Legend → Note → List ℕ
name_of legend note = part_of legend.notes.names.items note.start note.end

-- the kind of the literal that a line loads
abbrev pub literal_kind : Legend → ℕ → Option Kind
literal_kind legend line = option_and_then (λ (note : Note). note.kind) (note_of legend line 0)
