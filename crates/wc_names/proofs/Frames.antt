-- Where a path is in a unit's frame.
use Rattle.wc_model.proofs.Common.{◌≡◌, ℕ, suc, ◌+◌, ◌≤◌, Bool, true, false, ◌&&◌, List, [], ◌∷◌, Option, Some, None, cond, map, length, option_map, refl, sym, ap, subst, ◌∙◌, arith, length-map, bytes_eq-Decides, flat_map, position_from}
use Rattle.std.specs.Prelude.{if◌then◌else◌, find, slice_get, ◌||◌}
use Rattle.wc_model.specs.Definitions.{is_among, places_of_type, Variable, same_name, type_named, Name, Content, below, block_places, same_path, variable_places, ProgramUnit}
use Rattle.wc_names.specs.{same_name_laws, AreDifferent, AreRows, IsRow, end_of, row_named}
use Rattle.wc_names.specs.declared.variable.Variable.{Variable as Row}
use Rattle.wc_built_in.proofs.FieldTables.{position_from-map}
use Rattle.wc_names.proofs.Places.{same_count}
use Rattle.wc_names.proofs.Positions.{or_else, position_append, position_none, position_on}

-- a path among places below a name
below_by : (same : Bool) (ns : List Name) (i : ℕ) (own : List (List Name × Content)) → position_from (λ e. same && same_path e.0 ns) i own ≡ cond same (position_from (λ e. same_path e.0 ns) i own) None
below_by true ns i own = refl
below_by false ns i own = position_none i own

pub position_below : (v name : Name) (ns : List Name) (i : ℕ) (own : List (List Name × Content)) →
    position_from (λ e. same_path e.0 (name ∷ ns)) i (below v own) ≡ cond (same_name v name) (position_from (λ e. same_path e.0 ns) i own) None
position_below v name ns i own = position_from-map (λ p. (v ∷ p.0, p.1)) (λ e. same_path e.0 (name ∷ ns)) i own ∙ below_by (same_name v name) ns i own

-- the places of a variable, and of variables
abbrev pub own_places : List ProgramUnit → Variable → List (List Name × Content)
own_places before v = variable_places (block_places before) (type_named before v.type_name) v.initial

abbrev pub places_of : List ProgramUnit → List Variable → List (List Name × Content)
places_of before vs = flat_map (λ v. below v.name (own_places before v)) vs

or_none : (o : Option ℕ) → or_else o None ≡ o
or_none None = refl
or_none (Some n) = refl

-- if none has the name, the path leads nowhere
pub nowhere : (before : List ProgramUnit) (first : ℕ) (vs : List Variable) (name : Name) (ns : List Name) → is_among (map (λ v. v.name) vs) name ≡ false → position_from (λ e. same_path e.0 (name ∷ ns)) first (places_of before vs) ≡ None
nowhere before first [] name ns e = refl
nowhere before first (v ∷ vs) name ns e =
    let parts = both (same_name name v.name) (is_among (map (λ w. w.name) vs) name) e in
    position_append (λ e. same_path e.0 (name ∷ ns)) first (below v.name (own_places before v)) (places_of before vs)
    ∙ ap (λ o. or_else o (position_from (λ e. same_path e.0 (name ∷ ns)) (first + length (below v.name (own_places before v))) (places_of before vs)))
    (position_below v.name name ns first (own_places before v) ∙ ap (λ b. cond b (position_from (λ e. same_path e.0 ns) first (own_places before v)) None) (same_name_laws.symm v.name name ∙ parts.0))
    ∙ nowhere before (first + length (below v.name (own_places before v))) vs name ns parts.1
  where
    both : (a b : Bool) → (a || b) ≡ false → (a ≡ false) × (b ≡ false)
    both true b h = cc
    both false b h = (refl, h)

-- places end no sooner than they begin
end_least : (before : List ProgramUnit) (first : ℕ) (vs : List Variable) → first ≤ end_of before first vs
end_least before first [] = omega arith
end_least before first (v ∷ vs) = let h = end_least before (first + places_of_type before v.type_name) vs in omega (arith, h)

-- a variable with its row
pub record Alongside (before : List ProgramUnit) (v : Variable) (row : Row) : Type 0 where
  pub first : ℕ
  pub is : IsRow before first v row

-- if a variable has the name, the path leads into it
pub data Leads (before : List ProgramUnit) (vs : List Variable) (end : ℕ) (name : Name) (ns : List Name) (found : Option Row) (at : Option ℕ) : Type 0 where
  nothing : found ≡ None → at ≡ None → is_among (map (λ v. v.name) vs) name ≡ false → find (λ v. same_name v.name name) vs ≡ None → Leads before vs end name ns found at
  into : (v : Variable) (row : Row) → found ≡ Some row → Alongside before v row → v.name ≡ name → at ≡ option_map (λ n. row.first + n) (position_from (λ e. same_path e.0 ns) 0 (own_places before v)) → row.first + length (own_places before v) ≤ end → find (λ w. same_name w.name name) vs ≡ Some v → Leads before vs end name ns found at

pub leads : (before : List ProgramUnit) (first : ℕ) (vs : List Variable) (rows : List Row) (name : Name) (ns : List Name) → AreRows before first vs rows → AreDifferent (map (λ v. v.name) vs) →
    Leads before vs (end_of before first vs) name ns (row_named (map (λ v. v.name) vs) rows name) (position_from (λ e. same_path e.0 (name ∷ ns)) first (places_of before vs))
leads before first [] [] name ns h d = nothing refl refl refl refl
leads before first [] (r ∷ rows) name ns h d = absurd h
leads before first (v ∷ vs) [] name ns h d = absurd h
leads before first (v ∷ vs) (row ∷ rows) name ns h d =
    let test : List Name × Content → Bool = λ e. same_path e.0 (name ∷ ns) in
    let own = own_places before v in
    let cut = position_append test first (below v.name own) (places_of before vs) ∙ ap (λ o. or_else o (position_from test (first + length (below v.name own)) (places_of before vs))) (position_below v.name name ns first own) in
    let size : length (below v.name own) ≡ places_of_type before v.type_name = length-map own (λ p. (v.name ∷ p.0, p.1)) ∙ same_count (block_places before) (type_named before v.type_name) v.initial in
    here (same_name v.name name) refl cut size (leads before (first + places_of_type before v.type_name) vs rows name ns h.1 d.1)
  where
    here : (same : Bool) → same_name v.name name ≡ same →
        position_from (λ e. same_path e.0 (name ∷ ns)) first (places_of before (v ∷ vs))
        ≡ or_else (cond (same_name v.name name) (position_from (λ e. same_path e.0 ns) first (own_places before v)) None) (position_from (λ e. same_path e.0 (name ∷ ns)) (first + length (below v.name (own_places before v))) (places_of before vs)) →
        length (below v.name (own_places before v)) ≡ places_of_type before v.type_name →
        Leads before vs (end_of before (first + places_of_type before v.type_name) vs) name ns (row_named (map (λ w. w.name) vs) rows name) (position_from (λ e. same_path e.0 (name ∷ ns)) (first + places_of_type before v.type_name) (places_of before vs)) →
        Leads before (v ∷ vs) (end_of before first (v ∷ vs)) name ns (row_named (map (λ w. w.name) (v ∷ vs)) (row ∷ rows) name) (position_from (λ e. same_path e.0 (name ∷ ns)) first (places_of before (v ∷ vs)))
    here true s cut size rest =
        let e : v.name ≡ name = (bytes_eq-Decides v.name name).0 s in
        into v row (ap (λ b. if b then Some row else row_named (map (λ w. w.name) vs) rows name) s) (record { first = first; is = h.0 }) e
        (cut ∙ ap (λ b. or_else (cond b (position_from (λ e. same_path e.0 ns) first (own_places before v)) None) (position_from (λ e. same_path e.0 (name ∷ ns)) (first + length (below v.name (own_places before v))) (places_of before vs))) s
        ∙ ap (λ o. or_else (position_from (λ e. same_path e.0 ns) first (own_places before v)) o) (nowhere before (first + length (below v.name (own_places before v))) vs name ns (subst (λ n. is_among (map (λ w. w.name) vs) n ≡ false) e d.0))
        ∙ or_none (position_from (λ e. same_path e.0 ns) first (own_places before v)) ∙ position_on (λ e. same_path e.0 ns) first (own_places before v)
        ∙ ap (λ k. option_map (λ n. k + n) (position_from (λ e. same_path e.0 ns) 0 (own_places before v))) (sym h.0.begins))
        (let b = h.0.begins in let l = end_least before (first + places_of_type before v.type_name) vs in let z : length (own_places before v) ≡ places_of_type before v.type_name = same_count (block_places before) (type_named before v.type_name) v.initial in omega (arith, b, l, z)) (ap (λ b. cond b (Some v) (find (λ w. same_name w.name name) vs)) s)
    here false s cut size rest = later rest
      where
        at : position_from (λ e. same_path e.0 (name ∷ ns)) first (places_of before (v ∷ vs)) ≡ position_from (λ e. same_path e.0 (name ∷ ns)) (first + places_of_type before v.type_name) (places_of before vs)
        at = cut ∙ ap (λ b. or_else (cond b (position_from (λ e. same_path e.0 ns) first (own_places before v)) None) (position_from (λ e. same_path e.0 (name ∷ ns)) (first + length (below v.name (own_places before v))) (places_of before vs))) s
            ∙ ap (λ k. position_from (λ e. same_path e.0 (name ∷ ns)) (first + k) (places_of before vs)) size

        found : row_named (map (λ w. w.name) (v ∷ vs)) (row ∷ rows) name ≡ row_named (map (λ w. w.name) vs) rows name
        found = ap (λ b. if b then Some row else row_named (map (λ w. w.name) vs) rows name) s

        later : Leads before vs (end_of before (first + places_of_type before v.type_name) vs) name ns (row_named (map (λ w. w.name) vs) rows name) (position_from (λ e. same_path e.0 (name ∷ ns)) (first + places_of_type before v.type_name) (places_of before vs)) →
            Leads before (v ∷ vs) (end_of before first (v ∷ vs)) name ns (row_named (map (λ w. w.name) (v ∷ vs)) (row ∷ rows) name) (position_from (λ e. same_path e.0 (name ∷ ns)) first (places_of before (v ∷ vs)))
        later (nothing f a e g) = nothing (found ∙ f) (at ∙ a) (ap (λ b. b || is_among (map (λ w. w.name) vs) name) (same_name_laws.symm name v.name ∙ s) ∙ e) (ap (λ b. cond b (Some v) (find (λ w. same_name w.name name) vs)) s ∙ g)
        later (into w r f b e a l g) = into w r (found ∙ f) b e (at ∙ a) l (ap (λ b. cond b (Some v) (find (λ x. same_name x.name name) vs)) s ∙ g)

-- the row at the number of a name
counted_up : (b : Bool) (rows : List Row) (row : Row) (o : Option ℕ) (found : Option Row) → (elim o as (λ x. Option Row) [ Some k ↦ slice_get rows k | None ↦ None ]) ≡ found →
    (elim (cond b (Some 0) (option_map (λ n. 1 + n) o)) as (λ x. Option Row) [ Some k ↦ slice_get (row ∷ rows) k | None ↦ None ]) ≡ (if b then Some row else found)
counted_up true rows row o found e = refl
counted_up false rows row None found e = e
counted_up false rows row (Some k) found e = ap (slice_get (row ∷ rows)) (let s : 1 + k ≡ suc k = omega arith in s) ∙ e

pub row_at : (names : List Name) (rows : List Row) (name : Name) → length names ≡ length rows →
    (elim (position_from (λ n. same_name n name) 0 names) as (λ x. Option Row) [ Some k ↦ slice_get rows k | None ↦ None ]) ≡ row_named names rows name
row_at [] rows name e = refl
row_at (n ∷ names) [] name e = absurd (omega (arith, e))
row_at (n ∷ names) (row ∷ rows) name e =
    ap (λ (o : Option ℕ). elim (cond {A = Option ℕ} (same_name n name) (Some 0) o) as (λ x. Option Row) [ Some k ↦ slice_get (row ∷ rows) k | None ↦ None ]) (position_on (λ m. same_name m name) 1 names)
    ∙ counted_up (same_name n name) rows row (position_from (λ m. same_name m name) 0 names) (row_named names rows name) (row_at names rows name (omega (arith, e)))

pub row_found : (names : List Name) (rows : List Row) (name : Name) (k : ℕ) (found : Option Row) → length names ≡ length rows → position_from (λ n. same_name n name) 0 names ≡ Some k → slice_get rows k ≡ found → found ≡ row_named names rows name
row_found names rows name k found e at get =
    sym get ∙ sym (ap (λ (o : Option ℕ). elim o as (λ x. Option Row) [ Some j ↦ slice_get rows j | None ↦ None ]) at) ∙ row_at names rows name e

pub row_unknown : (names : List Name) (rows : List Row) (name : Name) → length names ≡ length rows → position_from (λ n. same_name n name) 0 names ≡ None → None ≡ row_named names rows name
row_unknown names rows name e at = sym (ap (λ (o : Option ℕ). elim o as (λ x. Option Row) [ Some j ↦ slice_get rows j | None ↦ None ]) at) ∙ row_at names rows name e

-- there are as many rows as variables
pub rows_length : (before : List ProgramUnit) (first : ℕ) (vs : List Variable) (rows : List Row) → AreRows before first vs rows → length (map (λ v. v.name) vs) ≡ length rows
rows_length before first [] [] h = refl
rows_length before first [] (r ∷ rows) h = absurd h
rows_length before first (v ∷ vs) [] h = absurd h
rows_length before first (v ∷ vs) (r ∷ rows) h = let e = rows_length before (first + places_of_type before v.type_name) vs rows h.1 in omega (arith, e)
