-- What is written on one line has no control of ASCII in it.
use Rattle.std.proofs.Common.{◌≡◌, ◌==◌, ◌&&◌, ◌||◌, not, ◌<◌, ◌≤◌, ◌/◌, ◌%◌, ◌+◌, ◌-◌, nat_lt, nat_le, lit<, ℕ, zero, suc, Bool, true, false, if◌then◌else◌, List, [], ◌∷◌, ◌++◌, Option, codes, decimal, refl, sym, subst, arith}
use Rattle.wc_model.proofs.Common.{and_parts, leb-true, ltb-false, digit_char, flat_map, is_utf8}
use Rattle.std.specs.Fmt.{digits, digits_onto, digit_glyph}
use Rattle.wc_diag_spans.specs.declared.diagnostic.Span.{Span}
use Rattle.wc_job.specs.declared.input.Input.{Input}
use Rattle.wc_job.specs.declared.input.Input.TheVariants.{Log}
use Rattle.wc_diag_spans.specs.declared.refusal.RefusalDetails.{RefusalDetails}
use Rattle.wc_diag_messages.specs.{IsKnown, IsPrintable, QuotesAndSays, left_out_text, numbered, quoted_text, helped_text, position_text, short_text, column_text, counted_text, first_column, line_text, place_text, row_text, section_text, KnowsWarning, named_text}
use Rattle.wc_diag_texts.specs.Plain.{HasNoControls, IsShown, acts, escaped_byte, escaped_text, hex_digit, is_calm, is_control, passes, shown_text, with_spaces, words_after}
use Rattle.wc_diag_messages.specs.declared.parts.Parts.{Parts}
use Rattle.wc_diag_messages.specs.declared.parts.Severity.{Severity}
use Rattle.wc_diag_warnings.specs.declared.warning.Warning.{Warning}
use Rattle.wc_lexer.specs.declared.shape.Token.{Token}

-- of two texts joined
pub joined : (xs ys : List ℕ) → HasNoControls xs → HasNoControls ys → HasNoControls (xs ++ ys)
joined [] ys h k = k
joined (x ∷ xs) ys h k = (h.0, joined xs ys h.1 k)

-- of either of two
pub either : (b : Bool) (xs ys : List ℕ) → HasNoControls xs → HasNoControls ys → HasNoControls (if b then xs else ys)
either true xs ys h k = h
either false xs ys h k = k

-- a hexadecimal digit is not a control
hex_chosen : (small : Bool) (d : ℕ) → 31 < (if small then 48 + d else 87 + d)
hex_chosen true d = omega arith
hex_chosen false d = omega arith

pub digit_above : (d : ℕ) → 31 < digit_char d
digit_above d = hex_chosen (nat_lt d 10) d

-- a byte as it is shown
byte_chosen : (printable tab : Bool) (byte : ℕ) → (printable ≡ true → 31 < byte)
    → HasNoControls (if printable then byte ∷ [] else (if tab then 32 ∷ [] else 92 ∷ 120 ∷ hex_digit (byte / 16) ∷ hex_digit (byte % 16) ∷ []))
byte_chosen true tab byte h = (h refl, tt)
byte_chosen false true byte h = (lit< tt, tt)
byte_chosen false false byte h = (lit< tt, (lit< tt, (hex_chosen (nat_lt (byte / 16) 10) (byte / 16), (hex_chosen (nat_lt (byte % 16) 10) (byte % 16), tt))))

byte_escaped : (byte : ℕ) → HasNoControls (escaped_byte byte)
byte_escaped byte =
    byte_chosen (nat_le 32 byte && nat_le byte 126) (byte == 9) byte
    (λ h. let least : 32 ≤ byte = leb-true 32 byte (and_parts _ _ h).0 in omega (arith, least))

bytes_escaped : (text : List ℕ) → HasNoControls (escaped_text text)
bytes_escaped [] = tt
bytes_escaped (byte ∷ rest) = joined (escaped_byte byte) (escaped_text rest) (byte_escaped byte) (bytes_escaped rest)

above_if_calm : (small other rest : Bool) (control : Bool) → (not ((small || control) || other) && rest) ≡ true → small ≡ false
above_if_calm small other rest control e = grind arith

calm_above : (bytes : List ℕ) → is_calm bytes ≡ true → HasNoControls bytes
calm_above [] e = tt
calm_above (byte ∷ bytes) e =
    let least : 32 ≤ byte = ltb-false byte 32 (above_if_calm (nat_lt byte 32) (acts (byte ∷ bytes)) (is_calm bytes) (byte == 127) e) in
    (omega (arith, least), calm_above bytes (and_parts (not (is_control byte || acts (byte ∷ bytes))) (is_calm bytes) e).1)

-- bytes as they are shown
pub bytes_shown : (text : List ℕ) → HasNoControls (shown_text text)
bytes_shown text = by (passes (with_spaces text)) refl
  where
    by : (b : Bool) → passes (with_spaces text) ≡ b → HasNoControls (if b then with_spaces text else escaped_text text)
    by true is = calm_above (with_spaces text) (and_parts (is_calm (with_spaces text)) (is_utf8 (with_spaces text)) is).0
    by false is = bytes_escaped text

texts_above : (texts : List (List ℕ)) → HasNoControls (flat_map shown_text texts)
texts_above [] = tt
texts_above (text ∷ texts) = joined (shown_text text) (flat_map shown_text texts) (bytes_shown text) (texts_above texts)

pub shown_above : (bytes : List ℕ) → IsShown bytes → HasNoControls bytes
shown_above bytes is = subst HasNoControls (sym is.1) (texts_above is.0)

-- digits of a number
glyph_chosen : (small upper : Bool) (d : ℕ) → 31 < (if small then 48 + d else (if upper then 55 + d else 87 + d))
glyph_chosen true upper d = omega arith
glyph_chosen false true d = omega arith
glyph_chosen false false d = omega arith

digits_above : (k base : ℕ) (upper : Bool) (n : ℕ) (acc : List ℕ) → HasNoControls acc → HasNoControls (digits_onto k base upper n acc)
digits_above zero base upper n acc h = h
digits_above (suc k) base upper n acc h =
    let more : HasNoControls (digit_glyph upper (n % base) ∷ acc) = (glyph_chosen (nat_lt (n % base) 10) upper (n % base), h) in
    either (n / base == 0) (digit_glyph upper (n % base) ∷ acc) (digits_onto k base upper (n / base) (digit_glyph upper (n % base) ∷ acc)) more
    (digits_above k base upper (n / base) (digit_glyph upper (n % base) ∷ acc) more)

pub decimal_above : (n : ℕ) → HasNoControls (decimal n)
unfolding digits
decimal_above n = digits_above 64 10 false n [] tt

-- the slice that is quoted, and what is said of it
left_out : (long : ℕ) → HasNoControls (left_out_text long)
left_out long = search (joined, either, bytes_shown)

pub quoted_above : (text : List ℕ) → HasNoControls (quoted_text text)
quoted_above [] = tt
quoted_above (byte ∷ rest) = search (joined, bytes_shown, left_out)

-- the name of a warning
named_above : (name : List ℕ) → HasNoControls (named_text name)
named_above [] = tt
named_above (byte ∷ rest) = search (joined, bytes_shown)

-- what is wrong
pub reported_above : (subject reported : List ℕ) → QuotesAndSays subject reported → HasNoControls reported
reported_above subject reported says = subst HasNoControls (sym says.2) (joined (quoted_text subject) says.0 (quoted_above subject) (shown_above says.0 says.1))

-- what to write instead after it
words_above : (mark words : List ℕ) → HasNoControls mark → HasNoControls words → HasNoControls (words_after mark words)
words_above mark [] h k = tt
words_above mark (byte ∷ rest) h k = joined mark (byte ∷ rest) h k

pub helped_above : (reported advice : List ℕ) → HasNoControls reported → HasNoControls advice → HasNoControls (helped_text reported advice)
helped_above reported advice h k =
    joined reported (words_after (shown_text (codes "; help: ")) advice) h (words_above (shown_text (codes "; help: ")) advice (bytes_shown (codes "; help: ")) k)

-- the place that is counted
counted_above : (part : Input) (place : ℕ) → HasNoControls (counted_text part place)
counted_above part place = search (joined, bytes_shown)

row_above : (part : Input) (place : ℕ) → HasNoControls (row_text part place)
row_above Log place = search (either, counted_above)
row_above part place = tt

section_above : (part : Input) (place : ℕ) → HasNoControls (section_text part place)
section_above part place = search (joined, either, bytes_shown, counted_above)

place_above : (in_job : Bool) (part : Input) (place : ℕ) → HasNoControls (place_text in_job part place)
place_above in_job part place = either in_job (section_text part place) (row_text part place) (section_above part place) (row_above part place)

line_above : (line : ℕ) → HasNoControls (line_text line)
line_above line = search (joined, either, bytes_shown)

column_above : (shown : List ℕ) (span : Option Span) → HasNoControls (column_text shown span)
column_above shown span = line_above (first_column shown span)

-- where it is
position_above : (parts : Parts) → HasNoControls parts.place.bytes.items → HasNoControls (position_text parts)
position_above parts h =
    let shown = parts.diagnostic.shown.items in
    let span = parts.diagnostic.span in
    let colon = words_above (shown_text (codes ":")) parts.place.bytes.items (bytes_shown (codes ":")) h in
    either (parts.line == 0) (words_after (shown_text (codes ":")) parts.place.bytes.items) (line_text parts.line ++ column_text shown span) colon
    (joined (line_text parts.line) (column_text shown span) (line_above parts.line) (column_above shown span))

-- its number
numbered_above : (severity : Severity) (number : ℕ) → HasNoControls (numbered severity number)
numbered_above severity number = search (joined, bytes_shown)

-- all of it on one line
pub short_above : (name : List ℕ) (parts : Parts) → IsPrintable parts → HasNoControls (short_text name parts)
short_above name parts is =
    let helped = helped_above parts.reported.bytes.items parts.advice.bytes.items is.reported is.advice in
    search (joined, bytes_shown, position_above parts is.place, numbered_above, helped)

-- what is known of a refusal or a warning
pub refusal_prints : (refusal : RefusalDetails) (parts : Parts) → IsKnown refusal parts → IsPrintable parts
refusal_prints refusal parts known =
    record {
      within = known.found.within;
      reported = reported_above parts.diagnostic.subject.items parts.reported.bytes.items known.says;
      place = subst HasNoControls (sym known.place_is) (place_above refusal.in_job refusal.part refusal.place);
      advice = shown_above parts.advice.bytes.items known.advice_is;
    }

pub warning_prints : (text : List ℕ) (tokens : List Token) (warning : Warning) (parts : Parts) → KnowsWarning text tokens warning parts → IsPrintable parts
warning_prints text tokens warning parts knows =
    record {
      within = knows.within;
      reported = subst HasNoControls (sym knows.reported_is)
          (joined (named_text warning.name.now) (shown_text knows.said) (named_above warning.name.now) (bytes_shown knows.said));
      place = subst HasNoControls (sym knows.place_is) tt;
      advice = subst HasNoControls (sym knows.advice_is) (bytes_shown knows.advice);
    }
