-- How a decoder goes on from where it is.
use Rattle.std.proofs.Common.{◌≡◌, ◌<◌, ◌≤◌, ◌+◌, ℕ, Bool, true, false, ◌==◌, List, [], ◌∷◌, ◌++◌, length, take, if◌then◌else◌, refl, sym, ap, ◌∙◌, subst, arith, length-append}
use Rattle.wc_model.proofs.Common.{codes, decimal, take-append_seam, take-length, flat_map-append, ne_eqb, position_or_len}
use Rattle.std.proofs.lemmas.List.{append_assoc, append-nil}
use Rattle.wc_view_decode.proofs.Takings.{both}
use Rattle.wc_view_decode.specs.{bytes_of_answers, AreDecoded, Decodes, DecodesPrefix, IsDecodedLine, Reports, longest_line, without_end, closing, heading, opening, passed_byte, passed_on, unknown, LineContent, AnswersContent, RefusalContent, ScanContent, content_text, HasNoEnd, IsInState}
use Rattle.wc_model.specs.Definitions.{hex_of_bytes, hex_of_word, spaced_numbers, onto_first_line, whole_lines}
use Rattle.wc_view_decode.specs.declared.format.DecodeFormat.{DecodeFormat}

-- a byte that is not a line feed
no_end : (byte : ℕ) → ¬ (byte ≡ 10) → (byte == 10) ≡ false
no_end byte other = ne_eqb byte 10 other

-- a line with its line feed is the first of those after it
line_in_prefix : (line rest : List ℕ) → HasNoEnd line → whole_lines (line ++ 10 ∷ rest) ≡ (line ++ 10 ∷ []) ∷ whole_lines rest
line_in_prefix [] rest single = refl
line_in_prefix (byte ∷ line) rest (other, single) =
    ap (λ b. if b then (10 ∷ []) ∷ whole_lines (line ++ 10 ∷ rest) else onto_first_line byte (whole_lines (line ++ 10 ∷ rest))) (no_end byte other)
    ∙ ap (onto_first_line byte) (line_in_prefix line rest single)

-- a byte before what has no line feed
byte_in_prefix : (byte : ℕ) (rest : List ℕ) → ¬ (byte ≡ 10) → whole_lines (byte ∷ rest) ≡ onto_first_line byte (whole_lines rest)
byte_in_prefix byte rest other = ap (λ b. if b then (10 ∷ []) ∷ whole_lines rest else onto_first_line byte (whole_lines rest)) (no_end byte other)

-- a line without line feed is a line of its own
pub last_line : (byte : ℕ) (line : List ℕ) → HasNoEnd (byte ∷ line) → whole_lines (byte ∷ line) ≡ (byte ∷ line) ∷ []
last_line byte [] (other, single) = byte_in_prefix byte [] other
last_line byte (next ∷ line) (other, single) = byte_in_prefix byte (next ∷ line) other ∙ ap (onto_first_line byte) (last_line next line single)

-- the bytes before the line feed
place_of_end : (line rest : List ℕ) → HasNoEnd line → position_or_len (λ byte. byte == 10) (line ++ 10 ∷ rest) ≡ length line
place_of_end [] rest single = refl
place_of_end (byte ∷ line) rest (other, single) = rw (no_end byte other) (omega (arith, place_of_end line rest single))

place_of_none : (line : List ℕ) → HasNoEnd line → position_or_len (λ byte. byte == 10) line ≡ length line
place_of_none [] single = refl
place_of_none (byte ∷ line) (other, single) = rw (no_end byte other) (omega (arith, place_of_none line single))

before_end : (line : List ℕ) → HasNoEnd line → without_end (line ++ 10 ∷ []) ≡ line
before_end line single = ap (λ n. take n (line ++ 10 ∷ [])) (place_of_end line [] single) ∙ take-append_seam line (10 ∷ [])

-- a line without its last byte
pub cut_end : (line kept : List ℕ) (n : ℕ) → n + 1 ≡ length line → line ≡ kept ++ 10 ∷ [] → HasNoEnd kept → take n line ≡ without_end line
cut_end line kept n size is single =
    let whole : n ≡ length kept = omega (arith, size, ap length is, length-append kept (10 ∷ [])) in
    ap (λ m. take m line) whole ∙ ap (take (length kept)) is ∙ take-append_seam kept (10 ∷ []) ∙ sym (ap without_end is ∙ before_end kept single)

without_none : (line : List ℕ) → HasNoEnd line → without_end line ≡ line
without_none line single = ap (λ n. take n line) (place_of_none line single) ∙ take-length line

-- a line that ends is not one of those that don't
ends_somewhere : (prefix : List ℕ) → ¬ (HasNoEnd (prefix ++ 10 ∷ []))
ends_somewhere [] (other, single) = other refl
ends_somewhere (byte ∷ prefix) (other, single) = ends_somewhere prefix single

-- each line of a report ends
content_ends : (reported : LineContent) (line : List ℕ) → HasNoEnd line → ¬ (line ≡ content_text reported)
content_ends (ScanContent ms steps outputs) line single e =
    ends_somewhere (codes "S " ++ decimal ms ++ codes " " ++ decimal steps ++ codes " " ++ hex_of_word outputs.bits ++ spaced_numbers outputs.words) (subst HasNoEnd e single)
content_ends (AnswersContent ms answers) line single e =
    ends_somewhere (codes "L " ++ decimal ms ++ codes " " ++ hex_of_bytes (bytes_of_answers answers)) (subst HasNoEnd e single)
content_ends (RefusalContent number place) line single e =
    ends_somewhere (codes "refused " ++ decimal number ++ codes " " ++ decimal place) (subst HasNoEnd e single)

-- a line that says nothing is marked
pub marked : (format : DecodeFormat) (line shown : List ℕ) → ((reported : LineContent) → ¬ (Reports reported line)) → shown ≡ unknown format (without_end line) → IsDecodedLine format line shown
marked format line shown none is = record { report = λ reported reports. absurd (none reported reports); other = λ never. is }

-- a line that has no line feed says nothing
pub marked_last : (format : DecodeFormat) (line : List ℕ) → HasNoEnd line → IsDecodedLine format line (unknown format line)
marked_last format line single =
    marked format line (unknown format line) (λ reported reports. content_ends reported line single reports.2) (ap (unknown format) (sym (without_none line single)))

-- nor does one that is too long
too_long : (format : DecodeFormat) (line shown : List ℕ) → longest_line + 1 < length line → shown ≡ unknown format (without_end line) → IsDecodedLine format line shown
too_long format line shown long is = marked format line shown (λ reported reports. omega (arith, long, reports.1)) is

-- lines decoded one after the other
pub decoded_after : (format : DecodeFormat) (lines : List (List ℕ)) (line shown first : List ℕ) → AreDecoded format lines shown → IsDecodedLine format line first
    → AreDecoded format (lines ++ line ∷ []) (shown ++ first)
decoded_after format [] line shown first each one = (first, [], one, refl, ap (λ s. s ++ first) each ∙ sym (append-nil first))
decoded_after format (l ∷ lines) line shown first (a, b, here, each, is) one =
    (a, b ++ first, here, decoded_after format lines line b first each one, ap (λ s. s ++ first) is ∙ append_assoc a b first)

-- lines after lines, if one more is read
one_line_read : (read lines_line rest : List ℕ) (byte : ℕ) (lines : List (List ℕ)) → ((r : List ℕ) → whole_lines (read ++ r) ≡ lines ++ whole_lines (lines_line ++ r)) → HasNoEnd lines_line
    → whole_lines ((read ++ 10 ∷ []) ++ rest) ≡ (lines ++ (lines_line ++ 10 ∷ []) ∷ []) ++ whole_lines rest
one_line_read read line rest byte lines whole single =
    ap whole_lines (append_assoc read (10 ∷ []) rest) ∙ whole (10 ∷ rest) ∙ ap (λ l. lines ++ l) (line_in_prefix line rest single)
    ∙ sym (append_assoc lines ((line ++ 10 ∷ []) ∷ []) (whole_lines rest))

-- or one byte more
one_byte_read : (read line rest : List ℕ) (byte : ℕ) (lines : List (List ℕ)) → ((r : List ℕ) → whole_lines (read ++ r) ≡ lines ++ whole_lines (line ++ r))
    → whole_lines ((read ++ byte ∷ []) ++ rest) ≡ lines ++ whole_lines ((line ++ byte ∷ []) ++ rest)
one_byte_read read line rest byte lines whole =
    ap whole_lines (append_assoc read (byte ∷ []) rest) ∙ whole (byte ∷ rest) ∙ ap (λ t. lines ++ whole_lines t) (sym (append_assoc line (byte ∷ []) rest))

-- a byte is kept
pub byte_kept : (format : DecodeFormat) (read kept text : List ℕ) (byte : ℕ) → ¬ (byte ≡ 10) → ¬ (length kept ≡ longest_line)
    → IsInState format read kept false text → IsInState format (read ++ byte ∷ []) (kept ++ byte ∷ []) false text
byte_kept format read kept text byte other short represents = record {
  lines = represents.lines;
  line = represents.line ++ byte ∷ [];
  shown = represents.shown;
  started = represents.started;
  whole = λ rest. one_byte_read read represents.line rest byte represents.lines represents.whole;
  single = both (λ byte. ¬ (byte ≡ 10)) represents.line (byte ∷ []) represents.single (other, tt);
  each = represents.each;
  keeps = (
    ap (λ l. l ++ byte ∷ []) represents.keeps.0,
    (omega (arith, represents.keeps.1, short, length-append kept (byte ∷ []))),
    represents.keeps.2,
  );
  text_is = represents.text_is;
}

-- a line ends and is decoded
pub line_ended : (format : DecodeFormat) (read kept text first : List ℕ) → (length (kept ++ 10 ∷ []) ≤ longest_line + 1 → IsDecodedLine format (kept ++ 10 ∷ []) first)
    → IsInState format read kept false text → IsInState format (read ++ 10 ∷ []) [] false (text ++ first)
line_ended format read kept text first decodes represents = record {
  lines = represents.lines ++ (represents.line ++ 10 ∷ []) ∷ [];
  line = [];
  shown = represents.shown ++ first;
  started = [];
  whole = λ rest. one_line_read read represents.line rest 10 represents.lines represents.whole represents.single;
  single = tt;
  each = decoded_after format represents.lines (represents.line ++ 10 ∷ []) represents.shown first represents.each
      (subst (λ l. IsDecodedLine format (l ++ 10 ∷ []) first) (sym represents.keeps.0)
      (decodes (omega (arith, represents.keeps.1, length-append kept (10 ∷ [])))));
  keeps = (refl, omega arith, refl);
  text_is =
      ap (λ t. t ++ first) (represents.text_is ∙ ap (λ s. heading format ++ represents.shown ++ s) represents.keeps.2 ∙ append-nil (heading format ++ represents.shown))
      ∙ append_assoc (heading format) represents.shown first ∙ sym (append-nil (heading format ++ (represents.shown ++ first)));
}

-- a line is found too long
pub long_started : (format : DecodeFormat) (read kept text : List ℕ) (byte : ℕ) → ¬ (byte ≡ 10) → length kept ≡ longest_line
    → IsInState format read kept false text → IsInState format (read ++ byte ∷ []) [] true (text ++ (opening format ++ passed_on format kept ++ passed_on format (byte ∷ [])))
long_started format read kept text byte other full represents =
    let again : opening format ++ passed_on format kept ++ passed_on format (byte ∷ []) ≡ opening format ++ passed_on format (represents.line ++ byte ∷ []) =
    append_assoc (opening format) (passed_on format kept) (passed_on format (byte ∷ [])) ∙ ap (λ p. opening format ++ p) (sym (flat_map-append (passed_byte format) kept (byte ∷ [])))
    ∙ ap (λ l. opening format ++ passed_on format (l ++ byte ∷ [])) (sym represents.keeps.0) in
    record {
      lines = represents.lines;
      line = represents.line ++ byte ∷ [];
      shown = represents.shown;
      started = opening format ++ passed_on format (represents.line ++ byte ∷ []);
      whole = λ rest. one_byte_read read represents.line rest byte represents.lines represents.whole;
      single = both (λ byte. ¬ (byte ≡ 10)) represents.line (byte ∷ []) represents.single (other, tt);
      each = represents.each;
      keeps = (omega (arith, full, ap length represents.keeps.0, length-append represents.line (byte ∷ [])), refl, refl);
      text_is = ap (λ t. text ++ t) again
          ∙ ap (λ t. t ++ (opening format ++ passed_on format (represents.line ++ byte ∷ [])))
          (represents.text_is ∙ ap (λ s. heading format ++ represents.shown ++ s) represents.keeps.2 ∙ append-nil (heading format ++ represents.shown));
    }

-- a byte of a line that is too long
pub long_more : (format : DecodeFormat) (read kept text : List ℕ) (byte : ℕ) → ¬ (byte ≡ 10)
    → IsInState format read kept true text → IsInState format (read ++ byte ∷ []) kept true (text ++ passed_on format (byte ∷ []))
long_more format read kept text byte other represents = record {
  lines = represents.lines;
  line = represents.line ++ byte ∷ [];
  shown = represents.shown;
  started = represents.started ++ passed_on format (byte ∷ []);
  whole = λ rest. one_byte_read read represents.line rest byte represents.lines represents.whole;
  single = both (λ byte. ¬ (byte ≡ 10)) represents.line (byte ∷ []) represents.single (other, tt);
  each = represents.each;
  keeps = (
    omega (arith, represents.keeps.0, length-append represents.line (byte ∷ [])),
    represents.keeps.1,
    ap (λ s. s ++ passed_on format (byte ∷ [])) represents.keeps.2 ∙ append_assoc (opening format) (passed_on format represents.line) (passed_on format (byte ∷ []))
        ∙ ap (λ p. opening format ++ p) (sym (flat_map-append (passed_byte format) represents.line (byte ∷ []))),
  );
  text_is = ap (λ t. t ++ passed_on format (byte ∷ [])) represents.text_is ∙ append_assoc (heading format ++ represents.shown) represents.started (passed_on format (byte ∷ []));
}

-- what is written of a line that is too long, with what closes it
closed_text : (format : DecodeFormat) (text shown started line : List ℕ) → text ≡ heading format ++ shown ++ started → started ≡ opening format ++ passed_on format line
    → text ++ closing format ≡ heading format ++ (shown ++ unknown format line)
closed_text format text shown started line e f =
    ap (λ t. t ++ closing format) (e ∙ append_assoc (heading format) shown started) ∙ append_assoc (heading format) (shown ++ started) (closing format)
    ∙ ap (λ t. heading format ++ t) (append_assoc shown started (closing format) ∙ ap (λ s. shown ++ (s ++ closing format)) f)

-- such a line ends
pub long_ended : (format : DecodeFormat) (read kept text : List ℕ) → IsInState format read kept true text → IsInState format (read ++ 10 ∷ []) kept false (text ++ closing format)
long_ended format read kept text represents = record {
  lines = represents.lines ++ (represents.line ++ 10 ∷ []) ∷ [];
  line = [];
  shown = represents.shown ++ unknown format represents.line;
  started = [];
  whole = λ rest. one_line_read read represents.line rest 10 represents.lines represents.whole represents.single;
  single = tt;
  each = decoded_after format represents.lines (represents.line ++ 10 ∷ []) represents.shown (unknown format represents.line) represents.each
      (too_long format (represents.line ++ 10 ∷ []) (unknown format represents.line) (omega (arith, represents.keeps.0, length-append represents.line (10 ∷ [])))
      (ap (unknown format) (sym (before_end represents.line represents.single))));
  keeps = (sym represents.keeps.1, omega (arith, ap length represents.keeps.1), refl);
  text_is = closed_text format text represents.shown represents.started represents.line represents.text_is represents.keeps.2
      ∙ sym (append-nil (heading format ++ (represents.shown ++ unknown format represents.line)));
}

-- all that was read, with the current line as the last
with_last : (read line : List ℕ) (lines : List (List ℕ)) → 0 < length line → HasNoEnd line → ((r : List ℕ) → whole_lines (read ++ r) ≡ lines ++ whole_lines (line ++ r))
    → whole_lines read ≡ lines ++ line ∷ []
with_last read [] lines some single whole = absurd (omega (arith, some))
with_last read (byte ∷ line) lines some single whole =
    ap whole_lines (sym (append-nil read)) ∙ whole [] ∙ ap (λ t. lines ++ whole_lines t) (append-nil (byte ∷ line)) ∙ ap (λ l. lines ++ l) (last_line byte line single)

-- a report that ends in a line that is too long
pub finished_long : (format : DecodeFormat) (read kept text : List ℕ) → IsInState format read kept true text → Decodes format read (text ++ closing format)
finished_long format read kept text represents = record {
  shown = represents.shown ++ unknown format represents.line;
  each = subst (λ l. AreDecoded format l (represents.shown ++ unknown format represents.line))
      (sym (with_last read represents.line represents.lines (omega (arith, represents.keeps.0)) represents.single represents.whole))
      (decoded_after format represents.lines represents.line represents.shown (unknown format represents.line) represents.each (marked_last format represents.line represents.single));
  text_is = closed_text format text represents.shown represents.started represents.line represents.text_is represents.keeps.2;
}

-- one that ends in a line with no line feed
pub finished_kept : (format : DecodeFormat) (read kept text : List ℕ) → ¬ (kept ≡ []) → IsInState format read kept false text → Decodes format read (text ++ unknown format kept)
finished_kept format read kept text some represents = record {
  shown = represents.shown ++ unknown format kept;
  each = subst (λ l. AreDecoded format l (represents.shown ++ unknown format kept))
      (sym (with_last read kept represents.lines (positive kept some) (subst HasNoEnd represents.keeps.0 represents.single)
      (λ r. represents.whole r ∙ ap (λ l. represents.lines ++ whole_lines (l ++ r)) represents.keeps.0)))
      (decoded_after format represents.lines kept represents.shown (unknown format kept) represents.each
      (marked_last format kept (subst HasNoEnd represents.keeps.0 represents.single)));
  text_is =
      ap (λ t. t ++ unknown format kept) (represents.text_is ∙ ap (λ s. heading format ++ represents.shown ++ s) represents.keeps.2 ∙ append-nil (heading format ++ represents.shown))
      ∙ append_assoc (heading format) represents.shown (unknown format kept);
}
  where
    positive : (xs : List ℕ) → ¬ (xs ≡ []) → 0 < length xs
    positive [] some = absurd (some refl)
    positive (x ∷ xs) some = omega arith

-- what was written of a report so far is a prefix of it decoded
pub prefix_written : (format : DecodeFormat) (read kept : List ℕ) (is_long : Bool) (text rest : List ℕ) → IsInState format read kept is_long (text ++ rest) → DecodesPrefix format read text
prefix_written format read kept false text rest represents = record {
  lines = represents.lines;
  left = whole_lines (represents.line ++ []);
  lines_are = ap whole_lines (sym (append-nil read)) ∙ represents.whole [];
  shown = represents.shown;
  each = represents.each;
  rest = rest;
  text_is = sym (represents.text_is ∙ ap (λ s. heading format ++ represents.shown ++ s) represents.keeps.2 ∙ append-nil (heading format ++ represents.shown));
}
prefix_written format read kept true text rest represents = record {
  lines = represents.lines ++ represents.line ∷ [];
  left = [];
  lines_are = with_last read represents.line represents.lines (omega (arith, represents.keeps.0)) represents.single represents.whole ∙ sym (append-nil (represents.lines ++ represents.line ∷ []));
  shown = represents.shown ++ unknown format represents.line;
  each = decoded_after format represents.lines represents.line represents.shown (unknown format represents.line) represents.each (marked_last format represents.line represents.single);
  rest = rest ++ closing format;
  text_is = sym (closed_text format (text ++ rest) represents.shown represents.started represents.line represents.text_is represents.keeps.2) ∙ append_assoc text rest (closing format);
}

-- a decoder that has taken nothing
pub nothing_read : (format : DecodeFormat) → IsInState format [] [] false (heading format)
nothing_read format = record {
  lines = [];
  line = [];
  shown = [];
  started = [];
  whole = λ rest. refl;
  single = tt;
  each = refl;
  keeps = (refl, omega arith, refl);
  text_is = sym (append-nil (heading format)) ∙ sym (append-nil (heading format ++ []));
}

-- and what was written of a prefix of what ends a report
pub end_prefix : (format : DecodeFormat) (report text rest : List ℕ) → Decodes format report (text ++ rest) → DecodesPrefix format report text
end_prefix format report text rest decodes = record {
  lines = whole_lines report;
  left = [];
  lines_are = sym (append-nil (whole_lines report));
  shown = decodes.shown;
  each = decodes.each;
  rest = rest;
  text_is = sym decodes.text_is;
}
