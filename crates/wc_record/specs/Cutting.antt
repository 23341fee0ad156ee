-- Where a reader is in the bytes of a log (RFC 4180, section 2), which of them it reads, and how many: of a record whose third field
-- has ended none after its first 65536 (the profile's own).
use Rattle.wc_record.specs.declared.place.ByteState.TheVariants as byte_state
use Rattle.std.specs.Prelude.{ℕ, ◌+◌, ◌==◌, ◌||◌, ◌&&◌, Bool, true, false, min, nat_le, if◌then◌else◌, ◌≡◌, ◌≢◌, ◌<◌, ◌≤◌, ◌-◌, List, [], ◌∷◌, ◌++◌, length, slice_index, take, drop, ◌^◌}
use Rattle.wc_record.specs.declared.place.LogPlace.{LogPlace}
use Rattle.wc_record.specs.declared.place.ByteState.{ByteState}

-- before the first byte of a log
abbrev pub log_start : LogPlace
log_start = record { byte_state = byte_state.LogStart; ended = 0; size = 0 }

-- before the first byte of a record
abbrev pub record_start : LogPlace
record_start = record { byte_state = byte_state.Opening; ended = 0; size = 0 }

-- three fields of the current record have ended, so that it has more than three, and 65536 of its
-- bytes were read
abbrev pub is_cut : LogPlace → Bool
is_cut place = nat_le 3 place.ended && nat_le 65536 place.size

-- after a byte outside of quotes that opens none: a comma ends a field, a line's end the record
abbrev pub after_plain : ℕ → ℕ → ℕ → LogPlace
after_plain ended size byte =
    if byte == 44 then record { byte_state = byte_state.Opening; ended = min 3 (ended + 1); size = size }
    else if (byte == 13) || (byte == 10) then record_start
    else record { byte_state = byte_state.Plain; ended = ended; size = size }

-- after a byte where a quote opens quotes
abbrev pub after_opening : ℕ → ℕ → ℕ → LogPlace
after_opening ended size byte =
    if byte == 34 then record { byte_state = byte_state.Quoted; ended = ended; size = size } else after_plain ended size byte

-- after one byte more, at each position
abbrev pub after_at : ByteState → ℕ → ℕ → ℕ → LogPlace
after_at byte_state.Opening ended size byte = after_opening ended size byte
after_at byte_state.Plain ended size byte = after_plain ended size byte
after_at byte_state.Quoted ended size byte =
    if byte == 34 then record { byte_state = byte_state.Opening; ended = ended; size = size }
    else record { byte_state = byte_state.Quoted; ended = ended; size = size }
after_at byte_state.LogStart ended size byte =
    if byte == 0xEF then record { byte_state = byte_state.SecondOfMark; ended = ended; size = size } else after_opening ended size byte
after_at byte_state.SecondOfMark ended size byte =
    if byte == 0xBB then record { byte_state = byte_state.ThirdOfMark; ended = ended; size = size } else after_plain ended size byte
after_at byte_state.ThirdOfMark ended size byte = if byte == 0xBF then record_start else after_plain ended size byte

-- no quotes are open there, and no byte order mark
abbrev pub is_outside : ByteState → Bool
is_outside byte_state.Opening = true
is_outside byte_state.Plain = true
is_outside other = false

-- after one byte more
abbrev pub after : LogPlace → ℕ → LogPlace
after place byte = after_at place.byte_state place.ended (min 65536 (place.size + 1)) byte

-- those of these bytes, from a place on
unfoldable pub cut_from : LogPlace → List ℕ → List ℕ
cut_from place [] = []
cut_from place (byte ∷ rest) = if is_cut place then [] else byte ∷ cut_from (after place byte) rest

-- n of these bytes, and then what is read from the new place on, is what is read of them and
-- of any that follow
abbrev pub Cuts : LogPlace → List ℕ → ℕ → LogPlace → Type 0
Cuts old bytes count new = (following : List ℕ) → cut_from old (bytes ++ following) ≡ take count bytes ++ cut_from new following

-- n bytes were passed, and the others are still to be
abbrev pub Passes : LogPlace → List ℕ → ℕ → LogPlace → Type 0
Passes old bytes count new =
    (following : List ℕ) → cut_from old (bytes ++ following) ≡ take count bytes ++ cut_from new (drop count bytes ++ following)

-- n bytes, none or all up to a line feed; if there are some, no byte of all is a quote
abbrev pub AreUnquotedLines : List ℕ → ℕ → Type 0
AreUnquotedLines bytes count =
    0 < count → (count ≤ length bytes) × (slice_index bytes (count - 1) ≡ 10)
    × ((k : ℕ) → k < length bytes → slice_index bytes k ≢ 34)

-- as much was read as may be: 134217728 bytes and calls since the start, or the count has come to
-- its end
abbrev pub is_exhausted : ℕ → ℕ → Bool
is_exhausted start spent = (spent == 2 ^ 64 - 1) || nat_le 134217728 (spent - start)
