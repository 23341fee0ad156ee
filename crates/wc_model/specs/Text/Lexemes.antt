-- The lexemes of a text: which of its slices may be tokens, and which one is at a place (IEC 61131-3:2003, 2.1).
use Rattle.std.specs.Prelude.{◌≡◌, ℕ, ◌≤◌, Bool, true, not, ◌&&◌, List, [], ◌∷◌, ◌++◌, length, drop, IsTrue, Some, if◌then◌else◌}
use Rattle.std.specs.Char.{is_ascii_digit}
use Rattle.std.specs.List.{list_all}
use Rattle.std.specs.Str.{byte}
use Rattle.wc_model.specs.Text.Characters.{begins, is_address_character, is_identifier_character, is_minus, is_number_character, is_sign, is_star, starts_identifier}
use Rattle.wc_model.specs.Text.Shapes.{Shape, Opening, AndNot, mark_of}

-- letters, digits and underscores that start with no digit
abbrev pub is_run : List ℕ → Bool
is_run chunk = begins starts_identifier chunk && list_all is_identifier_character chunk

-- characters of a number that start with a digit
abbrev pub is_unsigned_run : List ℕ → Bool
is_unsigned_run chunk = begins is_ascii_digit chunk && list_all is_number_character chunk

-- what may follow the `#` of a typed literal: characters of a number, with a `-` before them or none
abbrev pub is_literal_value : List ℕ → Bool
is_literal_value chunk = list_all is_number_character (drop (if begins is_minus chunk then 1 else 0) chunk)

-- `&N` ends if no character of an identifier follows, and `(` before `*` opens a comment
abbrev pub may_occur_before : Shape → List ℕ → Bool
may_occur_before AndNot after = not (begins is_identifier_character after)
may_occur_before Opening after = not (begins is_star after)
may_occur_before _ after = true

-- The slice may be a token if `after` follows it. What it may say is another question: each of these can have a fault.
pub data Lexeme (chunk after : List ℕ) : Type 0 where
  Run : IsTrue (is_run chunk) → Lexeme chunk after
  Typed : (type value : List ℕ) → chunk ≡ type ++ byte "#" ∷ value → IsTrue (is_run type) → IsTrue (is_literal_value value) → Lexeme chunk after
  Unsigned : IsTrue (is_unsigned_run chunk) → Lexeme chunk after
  Signed : (sign : ℕ) (number : List ℕ) → chunk ≡ sign ∷ number → IsTrue (is_sign sign) → IsTrue (is_unsigned_run number) → Lexeme chunk after
  Sign : (sign : ℕ) → chunk ≡ sign ∷ [] → IsTrue (is_sign sign) → Lexeme chunk after
  Addressed : (address : List ℕ) → chunk ≡ byte "%" ∷ address → IsTrue (list_all is_address_character address) → Lexeme chunk after
  Marked : (shape : Shape) → mark_of chunk ≡ Some shape → IsTrue (may_occur_before shape after) → Lexeme chunk after

-- the slice is the longest lexeme where it is
pub record IsLongestLexeme (chunk after : List ℕ) : Type 0 where
  pub lexeme : Lexeme chunk after
  pub longest : (other left : List ℕ) → other ++ left ≡ chunk ++ after → Lexeme other left → length other ≤ length chunk
