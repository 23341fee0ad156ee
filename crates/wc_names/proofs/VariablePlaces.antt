-- Which variable of a unit has the place with a number.
use Rattle.wc_model.proofs.Common.{◌≡◌, ℕ, zero, suc, ◌+◌, ◌-◌, ◌<◌, ◌≤◌, Bool, true, false, cond, List, [], ◌∷◌, ◌++◌, map, length, Some, option_map, refl, sym, ap, subst, ◌∙◌, arith, zero-add, slice_get_within, IsNonDecreasingBy}
use Rattle.std.proofs.lemmas.List.{append-nil, length-map}
use Rattle.std.specs.Prelude.{find, slice_get, slice_index_or, ◌||◌}
use Rattle.wc_model.specs.Definitions.{is_among, places_of_type, Variable, same_name, type_named, variables_of, Name, Content, below, block_places, ProgramUnit}
use Rattle.wc_names.specs.{HasPlace, same_name_laws, AreDifferent, AreRows, IsRow, IsTableOf, first_place, type_at}
use Rattle.wc_names.specs.declared.unit_table.UnitTable.{UnitTable}
use Rattle.wc_names.specs.declared.variable.Variable.{Variable as Row}
use Rattle.wc_names.proofs.Frames.{own_places, places_of}
use Rattle.wc_names.proofs.Lists.{found_within}
use Rattle.wc_names.proofs.Places.{same_count}

-- variables begin no sooner than the first of them
rows_least : (before : List ProgramUnit) (first : ℕ) (vs : List Variable) (rows : List Row) → AreRows before first vs rows → (k : ℕ) (d : Row) → k < length rows → first ≤ (slice_index_or rows k d).first
rows_least before first [] [] h k d l = absurd (omega (arith, l))
rows_least before first [] (r ∷ rows) h k d l = absurd h
rows_least before first (v ∷ vs) [] h k d l = absurd h
rows_least before first (v ∷ vs) (r ∷ rows) h zero d l = let b = h.0.begins in omega (arith, b)
rows_least before first (v ∷ vs) (r ∷ rows) h (suc k) d l =
    let least = rows_least before (first + places_of_type before v.type_name) vs rows h.1 k d (omega (arith, l)) in
    omega (arith, least)

-- and are in the order of their places
pub rows_rise : (before : List ProgramUnit) (first : ℕ) (vs : List Variable) (rows : List Row) → AreRows before first vs rows → IsNonDecreasingBy (λ (row : Row). row.first) rows
rows_rise before first [] [] h i j d le l = absurd (omega (arith, l))
rows_rise before first [] (r ∷ rows) h i j d le l = absurd h
rows_rise before first (v ∷ vs) [] h i j d le l = absurd h
rows_rise before first (v ∷ vs) (r ∷ rows) h zero zero d le l = omega arith
rows_rise before first (v ∷ vs) (r ∷ rows) h (suc i) zero d le l = absurd (omega (arith, le))
rows_rise before first (v ∷ vs) (r ∷ rows) h zero (suc j) d le l =
    let least = rows_least before (first + places_of_type before v.type_name) vs rows h.1 j d (omega (arith, l)) in
    let b = h.0.begins in
    omega (arith, least, b)
rows_rise before first (v ∷ vs) (r ∷ rows) h (suc i) (suc j) d le l = rows_rise before (first + places_of_type before v.type_name) vs rows h.1 i j d (omega (arith, le)) (omega (arith, l))

-- an item of the prefix of a list, and one after it
pub prefix_item : {X : Type 0} (xs ys : List X) (k : ℕ) → k < length xs → slice_get (xs ++ ys) k ≡ slice_get xs k
prefix_item [] ys k l = absurd (omega (arith, l))
prefix_item (x ∷ xs) ys zero l = refl
prefix_item (x ∷ xs) ys (suc k) l = prefix_item xs ys k (omega (arith, l))

pub later_item : {X : Type 0} (xs ys : List X) (k : ℕ) → slice_get (xs ++ ys) (length xs + k) ≡ slice_get ys k
later_item [] ys k = ap (slice_get ys) (zero-add k)
later_item (x ∷ xs) ys k = ap (slice_get (x ∷ xs ++ ys)) (let e : length (x ∷ xs) + k ≡ suc (length xs + k) = omega arith in e) ∙ later_item xs ys k

-- an item below a name
pub item_below : (name : Name) (places : List (List Name × Content)) (k : ℕ) → slice_get (below name places) k ≡ option_map (λ p. (name ∷ p.0, p.1)) (slice_get places k)
item_below name [] zero = refl
item_below name [] (suc k) = refl
item_below name (p ∷ places) zero = refl
item_below name (p ∷ places) (suc k) = item_below name places k

-- a name that is not among others is not one of them
pub other_name : (names : List Name) (name other : Name) (k : ℕ) → is_among names name ≡ false → slice_get names k ≡ Some other → same_name name other ≡ false
other_name [] name other zero none there = cc
other_name [] name other (suc k) none there = cc
other_name (n ∷ names) name other k none there = by k there (both (same_name name n) (is_among names name) none) (λ j e f. other_name names name other j e f)
  where
    both : (a b : Bool) → (a || b) ≡ false → (a ≡ false) × (b ≡ false)
    both true b e = cc
    both false b e = (refl, e)

    by : (k : ℕ) → slice_get (n ∷ names) k ≡ Some other → (same_name name n ≡ false) × (is_among names name ≡ false) → ((j : ℕ) → is_among names name ≡ false → slice_get names j ≡ Some other → same_name name other ≡ false) → same_name name other ≡ false
    by zero there parts onward = let same : n ≡ other = cc in ap (same_name name) (sym same) ∙ parts.0
    by (suc k) there parts onward = onward k parts.1 there

-- the variable with this number among others, with its row, and the entry at the number of a place
pub record VariablePlace (before : List ProgramUnit) (first : ℕ) (vs : List Variable) (rows : List Row) (number : ℕ) (entry : List Name × Content) (k : ℕ) : Type 0 where
  pub v : Variable
  pub row : Row
  pub row_there : slice_get rows k ≡ Some row
  pub name_there : slice_get (map (λ w. w.name) vs) k ≡ Some v.name
  pub named : find (λ w. same_name w.name v.name) vs ≡ Some v
  pub declared : type_at before v.type_name ≡ Some row.declared
  pub begins : row.first ≤ number
  pub inner : List Name × Content
  pub represents : slice_get (own_places before v) (number - row.first) ≡ Some inner
  pub entry_is : entry ≡ (v.name ∷ inner.0, inner.1)

-- the places of the first variable end before those of the next begin
ends_within : (before : List ProgramUnit) (first : ℕ) (v : Variable) (vs : List Variable) (rows : List Row) (number : ℕ) (entry : List Name × Content) → AreRows before (first + places_of_type before v.type_name) vs rows → first ≤ number →
    slice_get (places_of before (v ∷ vs)) (number - first) ≡ Some entry → ((j : ℕ) (d : Row) → j < length rows → number < (slice_index_or rows j d).first) → number - first < length (below v.name (own_places before v))
ends_within before first v [] [] number entry h least there following =
    let l = slice_get_within (places_of before (v ∷ [])) (number - first) entry there in
    let whole : length (places_of before (v ∷ [])) ≡ length (below v.name (own_places before v)) = ap length (append-nil (below v.name (own_places before v))) in
    omega (arith, l, whole)
ends_within before first v [] (r ∷ rows) number entry h least there following = absurd h
ends_within before first v (w ∷ vs) [] number entry h least there following = absurd h
ends_within before first v (w ∷ vs) (r ∷ rows) number entry h least there following =
    let l = following 0 r (omega arith) in
    let b = h.0.begins in
    let own = own_places before v in
    let size : length (below v.name own) ≡ length own = length-map own (λ p. (v.name ∷ p.0, p.1)) in
    let width : length own ≡ places_of_type before v.type_name = same_count (block_places before) (type_named before v.type_name) v.initial in
    omega (arith, l, b, size, width, least)

-- in the first variable
located_here : (before : List ProgramUnit) (first : ℕ) (v : Variable) (vs : List Variable) (row : Row) (rows : List Row) (number : ℕ) (entry : List Name × Content) → IsRow before first v row → first ≤ number →
    slice_get (places_of before (v ∷ vs)) (number - first) ≡ Some entry → number - first < length (below v.name (own_places before v)) → VariablePlace before first (v ∷ vs) (row ∷ rows) number entry 0
located_here before first v vs row rows number entry is least there within =
    let own = own_places before v in
    let size : length (below v.name own) ≡ length own = length-map own (λ p. (v.name ∷ p.0, p.1)) in
    let inner = found_within own (number - first) (omega (arith, within, size)) in
    let same : Some entry ≡ Some (v.name ∷ inner.0.0, inner.0.1) =
    sym there ∙ prefix_item (below v.name own) (places_of before vs) (number - first) within ∙ item_below v.name own (number - first) ∙ ap (option_map (λ p. (v.name ∷ p.0, p.1))) inner.1
    in
    record {
      v = v;
      row = row;
      row_there = refl;
      name_there = refl;
      named = ap (λ b. cond b (Some v) (find (λ w. same_name w.name v.name) vs)) (same_name_laws.refl v.name);
      declared = is.declared;
      begins = (let b = is.begins in omega (arith, b, least));
      inner = inner.0;
      represents = ap (λ n. slice_get own (number - n)) is.begins ∙ inner.1;
      entry_is = cc;
    }

pub located : (before : List ProgramUnit) (first : ℕ) (vs : List Variable) (rows : List Row) (number : ℕ) (entry : List Name × Content) → AreRows before first vs rows → AreDifferent (map (λ w. w.name) vs) → first ≤ number →
    slice_get (places_of before vs) (number - first) ≡ Some entry → (k : ℕ) → k < length rows → ((j : ℕ) (d : Row) → j ≤ k → (slice_index_or rows j d).first ≤ number) → ((j : ℕ) (d : Row) → k < j → j < length rows → number < (slice_index_or rows j d).first) → VariablePlace before first vs rows number entry k
located before first [] [] number entry h different least there k l started following = absurd (omega (arith, l))
located before first [] (r ∷ rows) number entry h different least there k l started following = absurd h
located before first (v ∷ vs) [] number entry h different least there k l started following = absurd h
located before first (v ∷ vs) (row ∷ rows) number entry h different least there zero l started following =
    located_here before first v vs row rows number entry h.0 least there (ends_within before first v vs rows number entry h.1 least there (λ j d m. following (suc j) d (omega arith) (omega (arith, m))))
located before first (v ∷ vs) (row ∷ rows) number entry h different least there (suc k) l started following =
    let own = own_places before v in
    let next = first + places_of_type before v.type_name in
    let size : length (below v.name own) ≡ length own = length-map own (λ p. (v.name ∷ p.0, p.1)) in
    let width : length own ≡ places_of_type before v.type_name = same_count (block_places before) (type_named before v.type_name) v.initial in
    let m : k < length rows = omega (arith, l) in
    let a = rows_least before next vs rows h.1 k row m in
    let b = started (suc k) row (omega arith) in
    let after_this : number - first ≡ length (below v.name own) + (number - next) = omega (arith, a, b, size, width) in
    let on : slice_get (places_of before vs) (number - next) ≡ Some entry = sym (later_item (below v.name own) (places_of before vs) (number - next)) ∙ ap (slice_get (places_of before (v ∷ vs))) (sym after_this) ∙ there in
    let r = located before next vs rows number entry h.1 different.1 (omega (arith, a, b)) on k m (λ j d e. started (suc j) d (omega (arith, e))) (λ j d e f. following (suc j) d (omega (arith, e)) (omega (arith, f))) in
    record {
      v = r.v;
      row = r.row;
      row_there = r.row_there;
      name_there = r.name_there;
      named = ap (λ b. cond b (Some v) (find (λ w. same_name w.name r.v.name) vs)) (other_name (map (λ w. w.name) vs) v.name r.v.name k different.0 r.name_there) ∙ r.named;
      declared = r.declared;
      begins = r.begins;
      inner = r.inner;
      represents = r.represents;
      entry_is = r.entry_is;
    }

-- if no variable begins at the number or before, no place has it
pub none_started : (before : List ProgramUnit) (first : ℕ) (vs : List Variable) (rows : List Row) (number : ℕ) (entry : List Name × Content) → AreRows before first vs rows → first ≤ number → slice_get (places_of before vs) (number - first) ≡ Some entry → ((j : ℕ) (d : Row) → j < length rows → number < (slice_index_or rows j d).first) → ⊥
none_started before first [] [] number entry h least there following = let l = slice_get_within (places_of before []) (number - first) entry there in omega (arith, l)
none_started before first [] (r ∷ rows) number entry h least there following = absurd h
none_started before first (v ∷ vs) [] number entry h least there following = absurd h
none_started before first (v ∷ vs) (r ∷ rows) number entry h least there following = let l = following 0 r (omega arith) in let b = h.0.begins in omega (arith, l, b, least)

-- what is found is the variable with the place
pub found_is : (before : List ProgramUnit) (u : ProgramUnit) (table : UnitTable) (number : ℕ) (entry : List Name × Content) (k : ℕ) (name : Name) (row : Row) (h : IsTableOf before u table) → VariablePlace before (first_place u) (variables_of u) table.rows.items number entry k →
    Some name ≡ slice_get table.names k → slice_get table.rows.items k ≡ Some row → HasPlace before u number entry name row
found_is before u table number entry k name row h at names rows =
    let spelled : Some name ≡ Some at.v.name = names ∙ ap (λ ns. slice_get ns k) h.names ∙ at.name_there in
    let same_name : at.v.name ≡ name = cc in
    let same_rows : Some at.row ≡ Some row = sym at.row_there ∙ rows in
    let same_row : at.row ≡ row = cc in
    subst (λ r. HasPlace before u number entry name r) same_row (
    subst (λ n. HasPlace before u number entry n at.row) same_name (record { variable = at.v; named = at.named; declared = at.declared; begins = at.begins; inner = at.inner; represents = at.represents; entry_is = at.entry_is }))
