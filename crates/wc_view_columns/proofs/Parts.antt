-- Rows of one number and of the next one, in rows whose numbers do not fall.
use Rattle.std.proofs.Common.{◌≡◌, ℕ, ◌+◌, ◌-◌, ◌*◌, ◌/◌, ◌^◌, ◌≤◌, ◌||◌, Bool, true, false, cond, nat_lt, List, [], ◌∷◌, ◌++◌, filter, refl, sym, ap, ◌∙◌, arith, le_trans, div-mul-le_self}
use Rattle.std.proofs.lemmas.Bool.{true≢false}
use Rattle.wc_model.proofs.Common.{nat_tests, filter_agree, le-div, pow_pos, shr-shr}
use Rattle.std.specs.Prelude.{◌==◌}
use Rattle.wc_view_columns.specs.Rows.{AreFrom, Row, column_number, rows_before, rows_of}

-- numbers that do not fall, from a number on
abbrev pub Rises : (Row → ℕ) → ℕ → List Row → Type 0
Rises n least [] = Unit {0}
Rises n least (row ∷ rows) = (least ≤ n row) × Rises n (n row) rows

rises_from : (n : Row → ℕ) (a b : ℕ) (rows : List Row) → Rises n b rows → a ≤ b → Rises n a rows
rises_from n a b [] rises l = tt
rises_from n a b (row ∷ rows) rises l = (le_trans l rises.0, rises.1)

none_later : (n : Row → ℕ) (p : Row → Bool) (least : ℕ) (rows : List Row) → Rises n least rows → ((row : Row) → least ≤ n row → p row ≡ false) → filter p rows ≡ []
none_later n p least [] rises fails = refl
none_later n p least (row ∷ rows) rises fails =
    ap (λ t. cond t (row ∷ filter p rows) (filter p rows)) (fails row rises.0) ∙ none_later n p least rows (rises_from n least (n row) rows rises.1 rises.0) fails

-- rows that pass one of two tests, if no row after one that passes the second passes the first
one_part : (x : Row) (all ps qs : List Row) (a b c : Bool) → c ≡ (a || b) → (b ≡ true → (a ≡ false) × (ps ≡ [])) → all ≡ ps ++ qs
    → cond c (x ∷ all) all ≡ cond a (x ∷ ps) ps ++ cond b (x ∷ qs) qs
one_part x all ps qs true true c e apart rest = absurd (true≢false (apart refl).0)
one_part x all ps qs true false c e apart rest = cc
one_part x all ps qs false true c e apart rest = let none = (apart refl).1 in cc
one_part x all ps qs false false c e apart rest = cc

parts : (n : Row → ℕ) (p q either : Row → Bool) (border least : ℕ) (rows : List Row) → Rises n least rows → ((row : Row) → either row ≡ (p row || q row))
    → ((row : Row) → q row ≡ true → border ≤ n row) → ((row : Row) → border ≤ n row → p row ≡ false) → filter either rows ≡ filter p rows ++ filter q rows
parts n p q either border least [] rises is late fails = refl
parts n p q either border least (row ∷ rows) rises is late fails =
    one_part row (filter either rows) (filter p rows) (filter q rows) (p row) (q row) (either row) (is row)
    (λ e. (fails row (late row e), none_later n p border rows (rises_from n border (n row) rows rises.1 (late row e)) fails))
    (parts n p q either border (n row) rows rises.1 is late fails)

-- of two numbers
two_parts : (n : Row → ℕ) (i least : ℕ) (rows : List Row) → Rises n least rows
    → filter (λ row. n row / 2 == i) rows ≡ filter (λ row. n row == 2 * i) rows ++ filter (λ row. n row == 2 * i + 1) rows
two_parts n i least rows rises =
    parts n (λ row. n row == 2 * i) (λ row. n row == 2 * i + 1) (λ row. n row / 2 == i) (2 * i + 1) least rows rises
    (λ row. grind (arith, nat_tests)) (λ row e. grind (arith, nat_tests)) (λ row l. grind (arith, nat_tests))

-- of the numbers up to one
up_to_parts : (n : Row → ℕ) (i least : ℕ) (rows : List Row) → Rises n least rows
    → filter (λ row. nat_lt (n row) (i + 1)) rows ≡ filter (λ row. nat_lt (n row) i) rows ++ filter (λ row. n row == i) rows
up_to_parts n i least rows rises =
    parts n (λ row. nat_lt (n row) i) (λ row. n row == i) (λ row. nat_lt (n row) (i + 1)) i least rows rises
    (λ row. grind (arith, nat_tests)) (λ row e. grind (arith, nat_tests)) (λ row l. grind (arith, nat_tests))

below_half : (m i : ℕ) → nat_lt (m / 2) i ≡ nat_lt m (2 * i)
below_half m i = grind (arith, nat_tests)

-- later times have no lesser numbers
pub later : (start power a b : ℕ) → a ≤ b → column_number start power a ≤ column_number start power b
later start power a b l =
    le-div ((a - start) / 2 ^ power) (b - start) (2 ^ power) (pow_pos power) (le_trans (div-mul-le_self (a - start) (2 ^ power)) (omega (arith, l)))

rising : (start power ms : ℕ) (rows : List Row) → AreFrom ms rows → Rises (λ row. column_number start power row.ms) (column_number start power ms) rows
rising start power ms [] from = tt
rising start power ms (row ∷ rows) from = (later start power ms row.ms from.0, rising start power row.ms rows from.1)

-- twice as wide
pub wider : (start power ms : ℕ) → column_number start (power + 1) ms ≡ column_number start power ms / 2
wider start power ms = sym (shr-shr (ms - start) power 1)

-- the rows of a column twice as wide
pub of_two : (start power i : ℕ) (rows : List Row) → AreFrom start rows
    → rows_of start (power + 1) i rows ≡ rows_of start power (2 * i) rows ++ rows_of start power (2 * i + 1) rows
of_two start power i rows from =
    filter_agree (λ row. column_number start (power + 1) row.ms == i) (λ row. column_number start power row.ms / 2 == i) (λ row. ap (λ m. m == i) (wider start power row.ms)) rows
    ∙ two_parts (λ row. column_number start power row.ms) i (column_number start power start) rows (rising start power start rows from)

pub before_two : (start power i : ℕ) (rows : List Row) → rows_before start (power + 1) i rows ≡ rows_before start power (2 * i) rows
before_two start power i rows =
    filter_agree (λ row. nat_lt (column_number start (power + 1) row.ms) i) (λ row. nat_lt (column_number start power row.ms) (2 * i))
    (λ row. ap (λ m. nat_lt m i) (wider start power row.ms) ∙ below_half (column_number start power row.ms) i) rows

-- the rows before the next column
pub before_next : (start power i : ℕ) (rows : List Row) → AreFrom start rows
    → rows_before start power (i + 1) rows ≡ rows_before start power i rows ++ rows_of start power i rows
before_next start power i rows from =
    up_to_parts (λ row. column_number start power row.ms) i (column_number start power start) rows (rising start power start rows from)
