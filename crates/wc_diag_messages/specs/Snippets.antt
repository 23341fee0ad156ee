-- The line of a text that is referred to, as a message shows it, with marks under the offending slice.
-- The profile's own.
use Rattle.std.specs.Prelude.{ℕ, ◌-◌, max, nat_lt, Bool, List, [], ◌∷◌, ◌++◌, Option, Some, None, codes, drop, length, replicate, take, if◌then◌else◌}
use Rattle.wc_diag_spans.specs.declared.diagnostic.Span.{Span}
use Rattle.wc_diag_messages.specs.Locations.{margin_text, number_text}
use Rattle.wc_diag_texts.specs.Plain.{characters, escaped_text, passes, shown_text, with_spaces, words_after}

-- the number of columns that bytes of a line take on screen, if it is shown as it is, or with escapes
abbrev pub columns : Bool → List ℕ → ℕ
columns is_text bytes = if is_text then characters bytes else length (escaped_text bytes)

-- where the offending slice starts; at the line's start if there is none
abbrev pub span_start : Option Span → ℕ
span_start None = 0
span_start (Some span) = span.start

-- the first byte that is shown: of a line above 120 bytes the one 60 before the offending slice
abbrev pub first_shown : List ℕ → ℕ → ℕ
first_shown line start = if nat_lt 120 (length line) then start - 60 else 0

-- the part of a line that is shown: 120 bytes at most
abbrev pub shown_part : List ℕ → Option Span → List ℕ
shown_part line span = take 120 (drop (first_shown line (span_start span)) line)

-- spaces under what is before a span, and a mark under each of its columns; one at least
abbrev pub marks : List ℕ → ℕ → ℕ → List ℕ
marks shown start long =
    replicate (columns (passes (with_spaces shown)) (take start shown)) 32
    ++ replicate (max (columns (passes (with_spaces shown)) (take long (drop start shown))) 1) 94

-- the marks under the part that is shown, and what could be there, if there is an offending slice
abbrev pub marked_text : List ℕ → Option Span → List ℕ → List ℕ
marked_text line None words = []
marked_text line (Some span) words =
    shown_text (codes " ")
    ++ marks (shown_part line (Some span)) (span.start - first_shown line span.start) span.length
    ++ words_after (shown_text (codes " expected ")) words

-- a line of the snippet that has no number
abbrev pub bar_line : List ℕ → List ℕ → List ℕ
bar_line margin text = margin ++ shown_text (codes " |") ++ text ++ (10 ∷ [])

-- the line of that number
abbrev pub quoted_line : ℕ → List ℕ → List ℕ
quoted_line number shown =
    number_text number ++ shown_text (codes " | ") ++ shown_text shown ++ (10 ∷ [])

-- the line that is referred to after its number, and under it the marks; nothing if no line is shown
abbrev pub snippet_text : ℕ → List ℕ → Option Span → List ℕ → List ℕ
snippet_text number [] span words = []
snippet_text number (byte ∷ rest) span words =
    bar_line (margin_text number) [] ++ quoted_line number (shown_part (byte ∷ rest) span)
    ++ bar_line (margin_text number) (marked_text (byte ∷ rest) span words)
