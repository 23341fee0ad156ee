-- Looking a name up in tables of words, among those that have as many letters.
use Rattle.std.proofs.Common.{◌≡◌, Bool, true, false, not, List, [], ◌∷◌, map, Option, Some, None, if◌then◌else◌, true≢false, refl, sym, ap, ◌∙◌, ◌<◌, ◌≤◌, ℕ, zero, suc, cond, length, arith, eq-eqb}
use Rattle.wc_model.proofs.Common.{and_parts, ltb-false, ne_eqb, bytes_eq-Decides, decided, list_all}
use Rattle.std.specs.Prelude.{◌||◌, option_and_then, ◌==◌, nat_lt}
use Rattle.std.specs.Option.{is_some}
use Rattle.wc_model.specs.Definitions.{is_among, named_in, same_name, Name, name_of}
use Rattle.wc_built_in.specs.Keywords.{keyword_row, keywords, longer_than, of_length}
use Rattle.wc_built_in.specs.declared.keywords.KeywordRow.{KeywordRow}

-- names that compare as the same are the same
pub names_equal : (a b : Name) → same_name a b ≡ true → a ≡ b
names_equal a b e = (bytes_eq-Decides a b).0 e

-- in whatever order they are compared
pub same_name_turned : (a b : Name) → same_name a b ≡ same_name b a
same_name_turned a b = (decided same_name (λ x y. bytes_eq-Decides x y)).symm a b

-- the names of a table
abbrev pub words_in : {X : Type 0} → List (Name × X) → List Name
words_in rows = map (λ row. row.0) rows

-- something is found if the name is among those of the table
pub some_among : {X : Type 0} (rows : List (Name × X)) (name : Name) → is_some (named_in rows name) ≡ is_among (words_in rows) name
some_among [] name = refl
some_among {X} (row ∷ rows) name = by (same_name row.0 name) (same_name name row.0) (same_name_turned row.0 name) (some_among rows name)
  where
    by : (a b : Bool) → a ≡ b → is_some (named_in rows name) ≡ is_among (words_in rows) name → is_some (if◌then◌else◌ {A = Option X} a (Some row.1) (named_in rows name)) ≡ (b || is_among (words_in rows) name)
    by true true e rest = refl
    by false false e rest = rest
    by true false e rest = absurd (true≢false e)
    by false true e rest = absurd (true≢false (sym e))

-- a name among these is among those, if all of these are
among_too : (xs ys : List Name) (name : Name) → list_all (is_among ys) xs ≡ true → is_among xs name ≡ true → is_among ys name ≡ true
among_too [] ys name all among = cc
among_too (x ∷ xs) ys name all among =
    let parts = and_parts (is_among ys x) (list_all (is_among ys) xs) all in
    by (same_name name x) refl among parts.0 (among_too xs ys name parts.1)
  where
    by : (b : Bool) → same_name name x ≡ b → (b || is_among xs name) ≡ true → is_among ys x ≡ true → (is_among xs name ≡ true → is_among ys name ≡ true) → is_among ys name ≡ true
    by true same among first rest = ap (is_among ys) (names_equal name x same) ∙ first
    by false same among first rest = rest among

-- two lists of the same names
pub same_words : (xs ys : List Name) (name : Name) → list_all (is_among ys) xs ≡ true → list_all (is_among xs) ys ≡ true → is_among xs name ≡ is_among ys name
same_words xs ys name there back = by (is_among xs name) (is_among ys name) (among_too xs ys name there) (among_too ys xs name back)
  where
    by : (a b : Bool) → (a ≡ true → b ≡ true) → (b ≡ true → a ≡ true) → a ≡ b
    by true b on back = sym (on refl)
    by false true on back = back refl
    by false false on back = refl

-- each row of a table has what a reading of another table gives for its name
abbrev pub AreRead : {X Y : Type 0} → (X → Option Y) → List (Name × X) → List (Name × Y) → Type 0
AreRead {X} {Y} f rows part = map (λ (row : Name × Y). option_and_then f (named_in rows row.0)) part ≡ map (λ (row : Name × Y). Some row.1) part

-- each row that can be read is in the other table
abbrev pub is_allowed_in : {X Y : Type 0} → (X → Option Y) → List (Name × Y) → Name × X → Bool
is_allowed_in f part row = not (is_some (f row.1)) || is_some (named_in part row.0)

-- what is found in the part is read
read_of : {X Y : Type 0} (f : X → Option Y) (rows : List (Name × X)) (part : List (Name × Y)) (name : Name) (y : Y) → AreRead f rows part → named_in part name ≡ Some y → option_and_then f (named_in rows name) ≡ Some y
read_of f rows [] name y read e = cc
read_of {X} {Y} f rows (row ∷ part) name y read e =
    let first : option_and_then f (named_in rows row.0) ≡ Some row.1 = cc in
    let following : AreRead f rows part = cc in
    by (same_name row.0 name) refl e first (read_of f rows part name y following)
  where
    by : (b : Bool) → same_name row.0 name ≡ b → (if◌then◌else◌ {A = Option Y} b (Some row.1) (named_in part name)) ≡ Some y → option_and_then f (named_in rows row.0) ≡ Some row.1
        → (named_in part name ≡ Some y → option_and_then f (named_in rows name) ≡ Some y) → option_and_then f (named_in rows name) ≡ Some y
    by true same e first rest = ap (λ n. option_and_then f (named_in rows n)) (sym (names_equal row.0 name same)) ∙ first ∙ e
    by false same e first rest = rest e

-- what is not found there is not
none_read : {X Y : Type 0} (f : X → Option Y) (rows : List (Name × X)) (part : List (Name × Y)) (name : Name) → list_all (is_allowed_in f part) rows ≡ true → named_in part name ≡ None → option_and_then f (named_in rows name) ≡ None
none_read f [] part name all none = refl
none_read {X} {Y} f (row ∷ rows) part name all none =
    let parts = and_parts (is_allowed_in f part row) (list_all (is_allowed_in f part) rows) all in
    by (same_name row.0 name) refl parts.0 (none_read f rows part name parts.1 none)
  where
    alone : (o : Option Y) → f row.1 ≡ o → row.0 ≡ name → (not (is_some o) || is_some (named_in part row.0)) ≡ true → o ≡ None
    alone None e same represents = refl
    alone (Some y) e same represents = absurd (true≢false (sym represents ∙ ap (λ n. is_some (named_in part n)) same ∙ ap is_some none))

    by : (b : Bool) → same_name row.0 name ≡ b → is_allowed_in f part row ≡ true → option_and_then f (named_in rows name) ≡ None → option_and_then f (if◌then◌else◌ {A = Option X} b (Some row.1) (named_in rows name)) ≡ None
    by true same represents rest = alone (f row.1) refl (names_equal row.0 name same) represents
    by false same represents rest = rest

-- so a part of a table can be looked up in the whole
pub found_in_part : {X Y : Type 0} (f : X → Option Y) (rows : List (Name × X)) (part : List (Name × Y)) (name : Name) → AreRead f rows part → list_all (is_allowed_in f part) rows ≡ true → option_and_then f (named_in rows name) ≡ named_in part name
found_in_part {X} {Y} f rows part name read all = by (named_in part name) refl
  where
    by : (o : Option Y) → named_in part name ≡ o → option_and_then f (named_in rows name) ≡ o
    by None e = none_read f rows part name all e
    by (Some y) e = read_of f rows part name y read e

-- a row that is the word is the one that is found, and one that is not is passed
pub row_at : (rows following : List KeywordRow) (name : Name) (row : KeywordRow) → rows ≡ row ∷ following → same_name (name_of row.word.now) name ≡ true → Some row.keyword ≡ named_in (map keyword_row rows) name
row_at rows following name row e same = rw (e, same) refl

pub row_passed : (rows following : List KeywordRow) (name : Name) (row : KeywordRow) → rows ≡ row ∷ following → same_name (name_of row.word.now) name ≡ false → named_in (map keyword_row following) name ≡ named_in (map keyword_row rows) name
row_passed rows following name row e other = rw (e, other) refl

-- names of other lengths are not the same
other_length : (a b : Name) → (length a == length b) ≡ false → same_name a b ≡ false
other_length a b e = by (same_name a b) refl
  where
    by : (s : Bool) → same_name a b ≡ s → s ≡ false
    by true same = absurd (true≢false (sym (eq-eqb (length a) (length b) (ap length (names_equal a b same))) ∙ e))
    by false other = refl

-- a name is found among those of its length
pub found_of_length : {X : Type 0} (rows : List (Name × X)) (name : Name) → named_in (of_length (length name) rows) name ≡ named_in rows name
found_of_length [] name = refl
found_of_length (row ∷ rows) name = by (length row.0 == length name) refl (found_of_length rows name)
  where
    by : (b : Bool) → (length row.0 == length name) ≡ b → named_in (of_length (length name) rows) name ≡ named_in rows name
        → named_in (cond b (row ∷ of_length (length name) rows) (of_length (length name) rows)) name ≡ named_in (row ∷ rows) name
    by true e further = ap (λ rest. if same_name row.0 name then Some row.1 else rest) further
    by false e further = further ∙ sym (ap (λ s. if s then Some row.1 else named_in rows name) (other_length row.0 name e))

-- those of more letters are among the longer ones
longer_kept : {X : Type 0} (rows : List (Name × X)) (letters least : ℕ) → least < letters → of_length letters (longer_than least rows) ≡ of_length letters rows
longer_kept [] letters least more = refl
longer_kept (row ∷ rows) letters least more = by (nat_lt least (length row.0)) refl (longer_kept rows letters least more)
  where
    by : (b : Bool) → nat_lt least (length row.0) ≡ b → of_length letters (longer_than least rows) ≡ of_length letters rows
        → of_length letters (cond b (row ∷ longer_than least rows) (longer_than least rows)) ≡ of_length letters (row ∷ rows)
    by true e further = ap (λ rest. cond (length row.0 == letters) (row ∷ rest) rest) further
    by false e further =
        let few : length row.0 ≤ least = ltb-false least (length row.0) e in
        let other : (length row.0 == letters) ≡ false = ne_eqb (length row.0) letters (λ same. omega (arith, few, more, same)) in
        further ∙ sym (ap (λ s. cond s (row ∷ of_length letters rows) (of_length letters rows)) other)

-- the words that are neither of one to five letters
pub longer_words_found : (letters : ℕ) → (letters ≡ 1 → ⊥) → (letters ≡ 2 → ⊥) → (letters ≡ 3 → ⊥) → (letters ≡ 4 → ⊥) → (letters ≡ 5 → ⊥) → of_length letters (longer_than 5 keywords) ≡ of_length letters keywords
longer_words_found zero a b c d e = refl
longer_words_found (suc k) a b c d e = longer_kept keywords (suc k) 5 (omega (arith, a, b, c, d, e))
