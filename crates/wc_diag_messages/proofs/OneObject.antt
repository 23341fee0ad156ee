-- An object is printed on one line.
use Rattle.std.proofs.Common.{◌≡◌, ◌==◌, ◌&&◌, ◌||◌, ◌<◌, ◌≤◌, ◌/◌, ◌%◌, nat_lt, lit<, ℕ, Bool, true, false, cond, if◌then◌else◌, List, [], ◌∷◌, ◌++◌, codes, refl, sym, subst, arith, ◌⊎◌, inl, inr}
use Rattle.wc_model.proofs.Common.{eqb-true, ltb-false, or_cases, digit_char}
use Rattle.json.specs.Print.{begins, ends, escape, escape_byte, escape_letter, print, print_from, quoted, separator, token_text}
use Rattle.json.specs.Token as json_token
use Rattle.json.specs.Token.{Token}
use Rattle.wc_diag_messages.proofs.OneLine.{decimal_above, digit_above, joined}
use Rattle.wc_diag_messages.specs.{number_if_any, number_member, object_tokens, position_members, severity_members, text_if_any, text_member, word_members, left_out_tokens}
use Rattle.wc_diag_texts.specs.Plain.{HasNoControls}
use Rattle.wc_diag_messages.specs.declared.parts.Parts.{Parts}
use Rattle.wc_diag_messages.specs.declared.parts.Severity.{Severity}
use Rattle.wc_diag_messages.specs.declared.parts.Severity.TheVariants.{Error, Warning}

-- the letter of a short escape is not a control
letter_chosen : (a b c d e f : Bool) (x : ℕ) → (a ≡ true → 31 < x) → nat_lt 0 (cond a x (cond b 98 (cond c 102 (cond d 110 (cond e 114 (cond f 116 0)))))) ≡ true
    → 31 < cond a x (cond b 98 (cond c 102 (cond d 110 (cond e 114 (cond f 116 0)))))
letter_chosen true b c d e f x h k = h refl
letter_chosen false true c d e f x h k = lit< tt
letter_chosen false false true d e f x h k = lit< tt
letter_chosen false false false true e f x h k = lit< tt
letter_chosen false false false false true f x h k = lit< tt
letter_chosen false false false false false true x h k = lit< tt
letter_chosen false false false false false false x h k = absurd (cc)

-- a quote and a backslash are no controls
mark_above : (x : ℕ) → ((x == 34) ≡ true) ⊎ ((x == 92) ≡ true) → 31 < x
mark_above x (inl e) = let is : x ≡ 34 = eqb-true x 34 e in omega (arith, is)
mark_above x (inr e) = let is : x ≡ 92 = eqb-true x 92 e in omega (arith, is)

letter_above : (x : ℕ) → nat_lt 0 (escape_letter x) ≡ true → 31 < escape_letter x
letter_above x =
    letter_chosen ((x == 34) || (x == 92)) (x == 8) (x == 12) (x == 10) (x == 13) (x == 9) x
    (λ h. mark_above x (or_cases _ _ h))

-- what represents a byte in a string
escape_chosen : (has small : Bool) (letter x : ℕ) → (has ≡ true → 31 < letter) → (small ≡ false → 31 < x)
    → HasNoControls (cond has (92 ∷ letter ∷ []) (cond small (92 ∷ 117 ∷ 48 ∷ 48 ∷ digit_char (x / 16) ∷ digit_char (x % 16) ∷ []) (x ∷ [])))
escape_chosen true small letter x h k = (lit< tt, (h refl, tt))
escape_chosen false true letter x h k = (lit< tt, (lit< tt, (lit< tt, (lit< tt, (digit_above (x / 16), (digit_above (x % 16), tt))))))
escape_chosen false false letter x h k = (k refl, tt)

escaped_byte : (x : ℕ) → HasNoControls (escape_byte x)
unfolding escape_byte
escaped_byte x =
    escape_chosen (nat_lt 0 (escape_letter x)) (nat_lt x 32) (escape_letter x) x (letter_above x)
    (λ h. let least : 32 ≤ x = ltb-false x 32 h in omega (arith, least))

escaped : (text : List ℕ) → HasNoControls (escape text)
escaped [] = tt
escaped (x ∷ xs) = joined (escape_byte x) (escape xs) (escaped_byte x) (escaped xs)

quoted_above : (text : List ℕ) → HasNoControls (quoted text)
quoted_above text = (lit< tt, joined (escape text) (34 ∷ []) (escaped text) (lit< tt, tt))

-- no control is in these tokens
abbrev pub AreClean : List Token → Type 0
AreClean [] = Unit {0}
AreClean (token ∷ rest) = HasNoControls (token_text token) × AreClean rest

both_clean : (one other : List Token) → AreClean one → AreClean other → AreClean (one ++ other)
both_clean [] other h k = k
both_clean (token ∷ one) other h k = (h.0, both_clean one other h.1 k)

either_clean : (b : Bool) (one other : List Token) → AreClean one → AreClean other → AreClean (if b then one else other)
either_clean true one other h k = h
either_clean false one other h k = k

-- the members
text_clean : (name text : List ℕ) → AreClean (text_member name text)
text_clean name text = (joined (quoted name) (58 ∷ []) (quoted_above name) (lit< tt, tt), (quoted_above text, tt))

number_clean : (name : List ℕ) (value : ℕ) → AreClean (number_member name value)
number_clean name value = (joined (quoted name) (58 ∷ []) (quoted_above name) (lit< tt, tt), (decimal_above value, tt))

text_if_any_clean : (name text : List ℕ) → AreClean (text_if_any name text)
text_if_any_clean name [] = tt
text_if_any_clean name (byte ∷ rest) = text_clean name (byte ∷ rest)

number_if_any_clean : (name : List ℕ) (value : ℕ) → AreClean (number_if_any name value)
number_if_any_clean name value = either_clean (value == 0) [] (number_member name value) tt (number_clean name value)

position_clean : (parts : Parts) → AreClean (position_members parts)
position_clean parts = search (both_clean, number_if_any_clean, text_if_any_clean)

severity_clean : (severity : Severity) → AreClean (severity_members severity)
severity_clean Error = tt
severity_clean Warning = text_clean (codes "severity") (codes "warning")

words_clean : (parts : Parts) → AreClean (word_members parts)
words_clean parts = search (both_clean, severity_clean, number_clean, text_clean, text_if_any_clean)

-- four groups of members of an object
object_clean : (name : List ℕ) (one other : List Token) → AreClean one → AreClean other
    → AreClean ((json_token.begin_object ∷ text_member (codes "file") name) ++ one ++ other ++ (json_token.end_object ∷ []))
object_clean name one other h k =
    let opening = json_token.begin_object ∷ text_member (codes "file") name in
    let first : AreClean opening = ((lit< tt, tt), text_clean (codes "file") name) in
    let last : AreClean (json_token.end_object ∷ []) = ((lit< tt, tt), tt) in
    search (both_clean, first, last, h, k)

-- a comma, if any
comma : (b : Bool) → HasNoControls (cond b (44 ∷ []) [])
comma true = (lit< tt, tt)
comma false = tt

-- what is printed of them
printed_above : (after_value : Bool) (tokens : List Token) → AreClean tokens → HasNoControls (print_from after_value tokens)
unfolding print_from
printed_above after_value [] h = tt
printed_above after_value (token ∷ rest) h =
    joined (separator after_value token) (token_text token ++ print_from (ends token) rest) (comma (after_value && begins token))
    (joined (token_text token) (print_from (ends token) rest) h.0 (printed_above (ends token) rest h.1))

-- objects are printed so
pub object_above : (parts : Parts) (name : List ℕ) (tokens : List Token) → tokens ≡ object_tokens parts name → HasNoControls (print tokens)
object_above parts name tokens e =
    subst (λ (ts : List Token). HasNoControls (print ts)) (sym e)
    (printed_above false (object_tokens parts name) (object_clean name (position_members parts) (word_members parts) (position_clean parts) (words_clean parts)))

pub left_out_above : (severity : Severity) (count : ℕ) (name : List ℕ) (tokens : List Token) → tokens ≡ left_out_tokens severity count name → HasNoControls (print tokens)
left_out_above severity count name tokens e =
    let left = number_member (codes "leftOut") count in
    subst (λ (ts : List Token). HasNoControls (print ts)) (sym e)
    (printed_above false (left_out_tokens severity count name)
    (object_clean name (severity_members severity) left (severity_clean severity) (number_clean (codes "leftOut") count)))
