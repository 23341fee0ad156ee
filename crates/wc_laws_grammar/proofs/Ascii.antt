-- The tokens of a text, and the identifiers that the grammar sees in them, are ASCII.
use Rattle.std.proofs.Common.{◌≡◌, ℕ, zero, suc, ◌<◌, Bool, true, false, cond, ◌&&◌, nat_le, List, [], ◌∷◌, ◌++◌, map, drop, sym, subst, ⊎_elim, arith, IsTrue}
use Rattle.wc_model.proofs.Common.{slice_index, and_parts, or_cases, eqb-true, leb-true, IsAscii-append, IsAscii-nil, list_all, IsAscii}
use Rattle.wc_model.specs.Definitions.{begins, is_address_character, is_identifier_character, is_minus, is_number_character, is_sign, starts_identifier, Lexeme, Run, Typed, Unsigned, Signed, Sign, Addressed, Marked, is_run, is_literal_value, is_unsigned_run, mark_of_token, symbol_of, Token, Cuts, Nothing, Skipped, Taken}
use Rattle.wc_model.specs.Text.Marks as marks
use Rattle.wc_model.specs.Text.Shapes.{Shape, Identifier, Whole}
use Rattle.wc_laws_grammar.proofs.Reach.{mark_passes}

-- ---- bytes

-- a byte of a range below 128
in_range_small : (least most b : ℕ) → most < 128 → (nat_le least b && nat_le b most) ≡ true → b < 128
in_range_small least most b below h = omega (arith, below, leb-true b most (and_parts (nat_le least b) (nat_le b most) h).1)

identifier_small : (b : ℕ) → is_identifier_character b ≡ true → b < 128
identifier_small b h =
    ⊎_elim
    (λ named. ⊎_elim (λ other. ⊎_elim (in_range_small 48 57 b (omega arith)) (in_range_small 65 90 b (omega arith)) (or_cases _ _ other)) (in_range_small 97 122 b (omega arith)) (or_cases _ _ named))
    (λ underscore. omega (arith, eqb-true b 95 underscore)) (or_cases _ _ h)

number_small : (b : ℕ) → is_number_character b ≡ true → b < 128
number_small b h =
    ⊎_elim (λ other. ⊎_elim (identifier_small b) (λ hash. omega (arith, eqb-true b 35 hash)) (or_cases _ _ other)) (λ point. omega (arith, eqb-true b 46 point)) (or_cases _ _ h)

address_small : (b : ℕ) → is_address_character b ≡ true → b < 128
address_small b h =
    ⊎_elim
    (λ named. ⊎_elim (λ other. ⊎_elim (in_range_small 48 57 b (omega arith)) (in_range_small 65 90 b (omega arith)) (or_cases _ _ other)) (in_range_small 97 122 b (omega arith)) (or_cases _ _ named))
    (λ point. omega (arith, eqb-true b 46 point)) (or_cases _ _ h)

sign_small : (b : ℕ) → is_sign b ≡ true → b < 128
sign_small b h = ⊎_elim (λ plus. omega (arith, eqb-true b 43 plus)) (λ minus. omega (arith, eqb-true b 45 minus)) (or_cases _ _ h)

-- ---- slices

-- one more byte
one_more : (b : ℕ) (bs : List ℕ) → b < 128 → IsAscii bs → (i : ℕ) → slice_index (b ∷ bs) i < 128
one_more b bs small h zero = small
one_more b bs small h (suc i) = h i

-- bytes that all pass a test that only ASCII passes
all_small : (p : ℕ → Bool) → ((b : ℕ) → p b ≡ true → b < 128) → (bs : List ℕ) → list_all p bs ≡ true → IsAscii bs
all_small p small [] h = IsAscii-nil
all_small p small (b ∷ bs) h = let both = and_parts (p b) (list_all p bs) h in one_more b bs (small b both.0) (all_small p small bs both.1)

run_ascii : (chunk : List ℕ) → IsTrue (is_run chunk) → IsAscii chunk
run_ascii chunk h = all_small is_identifier_character identifier_small chunk (and_parts (begins starts_identifier chunk) _ h).1

unsigned_ascii : (chunk : List ℕ) → IsTrue (is_unsigned_run chunk) → IsAscii chunk
unsigned_ascii chunk h = all_small is_number_character number_small chunk (and_parts _ (list_all is_number_character chunk) h).1

value_ascii : (value : List ℕ) → IsTrue (is_literal_value value) → IsAscii value
value_ascii [] h = IsAscii-nil
value_ascii (b ∷ value) h = go (is_minus b) Rattle.std.proofs.Common.refl h
  where
    go : (m : Bool) → is_minus b ≡ m → list_all is_number_character (drop (cond m 1 0) (b ∷ value)) ≡ true → IsAscii (b ∷ value)
    go true minus all = one_more b value (omega (arith, eqb-true b 45 minus)) (all_small is_number_character number_small value all)
    go false other all = all_small is_number_character number_small (b ∷ value) all

-- each lexeme
lexeme_ascii : (chunk after : List ℕ) → Lexeme chunk after → IsAscii chunk
lexeme_ascii chunk after (Run h) = run_ascii chunk h
lexeme_ascii chunk after (Typed type value e t v) =
    subst IsAscii (sym e) (IsAscii-append type (35 ∷ value) (run_ascii type t) (one_more 35 value (omega arith) (value_ascii value v)))
lexeme_ascii chunk after (Unsigned h) = unsigned_ascii chunk h
lexeme_ascii chunk after (Signed sign number e s n) = subst IsAscii (sym e) (one_more sign number (sign_small sign s) (unsigned_ascii number n))
lexeme_ascii chunk after (Sign sign e s) = subst IsAscii (sym e) (one_more sign [] (sign_small sign s) IsAscii-nil)
lexeme_ascii chunk after (Addressed address e a) = subst IsAscii (sym e) (one_more 37 address (omega arith) (all_small is_address_character address_small address a))
lexeme_ascii chunk after (Marked shape found may) =
    all_small (λ b. nat_le b 127) (λ b h. omega (arith, leb-true b 127 h)) chunk (mark_passes (λ p s. list_all (λ b. nat_le b 127) p) chunk shape Rattle.std.proofs.Common.refl found)

-- ---- tokens

-- if the grammar sees the bytes of an identifier, they are ASCII
abbrev pub IsAsciiSymbol : marks.Symbol → Type 0
IsAsciiSymbol (marks.Identifier bytes) = IsAscii bytes
IsAsciiSymbol _ = Unit {0}

abbrev pub AreAscii : List marks.Mark → Type 0
AreAscii [] = Unit {0}
AreAscii (mark ∷ others) = IsAsciiSymbol mark.symbol × AreAscii others

symbol_ascii : (shape : Shape) (bytes : List ℕ) → IsAscii bytes → IsAsciiSymbol (symbol_of shape bytes)
symbol_ascii Identifier bytes h = h
symbol_ascii (Whole value) bytes h = tt
symbol_ascii another bytes h = tt

-- the tokens of a text as the grammar sees them
pub tokens_ascii : {Ends : List ℕ → List ℕ → Type 0} (before rest : List ℕ) (tokens : List Token) → Cuts Ends before rest tokens → AreAscii (map mark_of_token tokens)
tokens_ascii before rest [] (Nothing e) = tt
tokens_ascii before rest tokens (Skipped chunk after whole blank more) = tokens_ascii (before ++ chunk) after tokens more
tokens_ascii before rest (token ∷ tokens) (Taken shape chunk after whole longest shaped more) =
    (symbol_ascii shape chunk (lexeme_ascii chunk after longest.lexeme), tokens_ascii (before ++ chunk) after tokens more)

-- a prefix of such tokens, and the rest
pub ascii_parts : (prefix rest : List marks.Mark) → AreAscii (prefix ++ rest) → AreAscii prefix × AreAscii rest
ascii_parts [] rest h = (tt, h)
ascii_parts (mark ∷ prefix) rest h = let both = ascii_parts prefix rest h.1 in ((h.0, both.0), both.1)
