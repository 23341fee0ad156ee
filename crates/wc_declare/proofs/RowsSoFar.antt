-- The rows of a table, one after the other.
use Rattle.std.proofs.Common.{◌≡◌, ℕ, true, ◌+◌, ◌*◌, ◌≤◌, List, [], ◌∷◌, ◌++◌, map, length, Option, Some, option_map, append_assoc, refl, sym, ap, subst, ◌∙◌, arith, length-append}
use Rattle.std.proofs.lemmas.List.{append-nil}
use Rattle.wc_model.specs.Language.Checks.{Check, Position, asks, first_broken, positions_after}
use Rattle.wc_model.specs.Language.DeclarationRules.{Taken, and_more, has_capacity, places_of_type}
use Rattle.wc_model.specs.Definitions.{Variable, VariableType, type_named, Declaration, ProgramUnit, Word}
use Rattle.wc_names.specs.{plain_of_field, is_allowed_in, AreRows, IsRow, end_of, plain_at, plain_from, type_at}
use Rattle.wc_declare.specs.SoFar.{HasTaken, HoldsRows, plain_as}
use Rattle.wc_names.specs.declared.declared_type.DeclaredType.{DeclaredType}
use Rattle.wc_names.specs.declared.unit_table.UnitTable.{UnitTable}
use Rattle.wc_names.specs.declared.variable.Variable.{Variable as Row}
use Rattle.wc_names.proofs.Places.{TypeCase, of_elementary, of_standard, of_block, type_case}

-- one more row
rows_more : (before : List ProgramUnit) (first : ℕ) (vs : List Variable) (rows : List Row) (v : Variable) (row : Row) → AreRows before first vs rows → IsRow before (end_of before first vs) v row →
    AreRows before first (vs ++ v ∷ []) (rows ++ row ∷ [])
rows_more before first [] [] v row h is = (is, tt)
rows_more before first [] (r ∷ rows) v row h is = absurd h
rows_more before first (u ∷ vs) [] v row h is = absurd h
rows_more before first (u ∷ vs) (r ∷ rows) v row h is = (h.0, rows_more before (first + places_of_type before u.type_name) vs rows v row h.1 is)

end_more : (before : List ProgramUnit) (first : ℕ) (vs : List Variable) (v : Variable) → end_of before first (vs ++ v ∷ []) ≡ end_of before first vs + places_of_type before v.type_name
end_more before first [] v = refl
end_more before first (u ∷ vs) v = end_more before (first + places_of_type before u.type_name) vs v

plain_more : (before : List ProgramUnit) (first : ℕ) (vs : List Variable) (v : Variable) →
    plain_from before first (vs ++ v ∷ []) ≡ plain_from before first vs ++ plain_at (end_of before first vs) v (type_named before v.type_name)
plain_more before first [] v = append-nil (plain_at first v (type_named before v.type_name))
plain_more before first (u ∷ vs) v =
    let next = first + places_of_type before u.type_name in
    ap (λ xs. plain_at first u (type_named before u.type_name) ++ xs) (plain_more before next vs v)
    ∙ sym (append_assoc (plain_at first u (type_named before u.type_name)) (plain_from before next vs) (plain_at (end_of before next vs) v (type_named before v.type_name)))

plain_case : (before : List ProgramUnit) (v : Variable) (row : Row) (type : Option VariableType) → row.section ≡ v.section → TypeCase before type row.declared → plain_as row.declared v.name row ≡ plain_at row.first v type
plain_case before v row type s (of_elementary k t d) =
    ap (λ x. plain_as x v.name row) d ∙ (λ i. record { name = v.name; section = s i; kind = k; place = Some row.first } ∷ []) ∙ sym (ap (plain_at row.first v) t)
plain_case before v row type s (of_standard b t d) = ap (λ x. plain_as x v.name row) d ∙ sym (ap (plain_at row.first v) t)
plain_case before v row type s (of_block n u us t f d) = ap (λ x. plain_as x v.name row) d ∙ sym (ap (plain_at row.first v) t)

-- a table that holds one more variable
pub holds_more : (before : List ProgramUnit) (first : ℕ) (vs : List Variable) (v : Variable) (row : Row) (width : ℕ) (old new : UnitTable) → HoldsRows before first vs old →
    type_at before v.type_name ≡ Some row.declared → places_of_type before v.type_name ≡ width → is_allowed_in v.section row.declared ≡ true → row.section ≡ v.section → row.first ≡ old.size → row.initial ≡ option_map (λ i. i.value) v.initial →
    new.rows.items ≡ old.rows.items ++ row ∷ [] → new.size ≡ old.size + width → map plain_of_field new.fields.items ≡ map plain_of_field old.fields.items ++ plain_as row.declared v.name row →
    HoldsRows before first (vs ++ v ∷ []) new
holds_more before first vs v row width old new h type wide represents section begins initial rows size fields =
    let at : row.first ≡ end_of before first vs = begins ∙ h.size in record {
      rows = subst (AreRows before first (vs ++ v ∷ [])) (sym rows) (rows_more before first vs old.rows.items v row h.rows (record { section = section; declared = type; represents = represents; begins = at; initial = initial }));
      size = size ∙ (λ i. h.size i + sym wide i) ∙ sym (end_more before first vs v);
      fields = fields ∙ (λ i. h.fields i ++ plain_case before v row (type_named before v.type_name) section (type_case before (type_named before v.type_name) row.declared type) i)
          ∙ ap (λ n. plain_from before first vs ++ plain_at n v (type_named before v.type_name)) at ∙ sym (plain_more before first vs v);
    }

-- a word of a declaration as a variable
abbrev pub as_variable : Declaration → Word → Variable
as_variable d w = record { name = w.name; line = w.line; section = d.section; type_name = d.type_name.name; initial = d.initial }

abbrev pub capacity_of : Taken → ℕ → Position Word → Check
capacity_of t width position = asks 306 position.item.line (has_capacity (and_more t (length position.before + 1) width))

-- one more than n
pub one_further : (t : Taken) (n width : ℕ) → and_more t (n + 1) width ≡ and_more (and_more t n width) 1 width
one_further t n width =
    let a : t.variables + (n + 1) ≡ (t.variables + n) + 1 = omega arith in
    let b : t.places + (n + 1) * width ≡ (t.places + n * width) + 1 * width = omega arith in
    λ i. record { variables = a i; places = b i }

-- what follows the variables so far
pub record CapacityAfter (start own : UnitTable) (d : Declaration) (declared : DeclaredType) (width : ℕ) (all left : List Word) : Type 0 where
  pub before : List Word
  pub done : List Variable
  pub found : (t : Taken) (rest : List Check) → HasTaken t start → first_broken (map (capacity_of t width) (positions_after [] all) ++ rest) ≡ first_broken (map (capacity_of t width) (positions_after before left) ++ rest)
  pub taken : (t : Taken) → HasTaken t start → HasTaken (and_more t (length before) width) own
  pub held : (b : List ProgramUnit) (first : ℕ) (vs : List Variable) → type_at b d.type_name.name ≡ Some declared → places_of_type b d.type_name.name ≡ width → is_allowed_in d.section declared ≡ true → HoldsRows b first vs start → HoldsRows b first (vs ++ done) own
  pub joined : done ++ map (as_variable d) left ≡ map (as_variable d) all
  pub counted : length before + length left ≡ length all
  pub names : own.names ≡ start.names
  pub small : start.size ≤ 4096 → own.size ≤ 4096
  pub is_block : own.is_block ≡ start.is_block

none_taken : (t : Taken) (width : ℕ) → and_more t 0 width ≡ t
none_taken t width =
    let a : t.variables + 0 ≡ t.variables = omega arith in
    let b : t.places + 0 * width ≡ t.places = omega arith in
    λ i. record { variables = a i; places = b i }

pub capacity_first : (start : UnitTable) (d : Declaration) (declared : DeclaredType) (width : ℕ) (all : List Word) → CapacityAfter start start d declared width all all
capacity_first start d declared width all = record {
  before = [];
  done = [];
  found = λ t rest h. refl;
  taken = λ t h. subst (λ x. HasTaken x start) (sym (none_taken t width)) h;
  held = λ b first vs type wide represents h. subst (λ xs. HoldsRows b first xs start) (sym (append-nil vs)) h;
  joined = refl;
  counted = omega arith;
  names = refl;
  small = λ h. h;
  is_block = refl;
}

pub capacity_more : (start own new : UnitTable) (d : Declaration) (declared : DeclaredType) (width : ℕ) (all : List Word) (word : Word) (left : List Word) (row : Row) → CapacityAfter start own d declared width all (word ∷ left) →
    ((t : Taken) (rest : List Check) → HasTaken t own → first_broken (asks 306 word.line (has_capacity (and_more t 1 width)) ∷ rest) ≡ first_broken rest) →
    row.declared ≡ declared → row.section ≡ d.section → row.first ≡ own.size → row.initial ≡ option_map (λ i. i.value) d.initial →
    new.rows.items ≡ own.rows.items ++ row ∷ [] → new.size ≡ own.size + width → map plain_of_field new.fields.items ≡ map plain_of_field own.fields.items ++ plain_as row.declared word.name row →
    new.names ≡ own.names → new.size ≤ 4096 → new.is_block ≡ own.is_block → CapacityAfter start new d declared width all left
capacity_more start own new d declared width all word left row h passes type section begins initial rows size fields names small is_block = record {
  before = word ∷ h.before;
  done = h.done ++ as_variable d word ∷ [];
  found = λ t rest taken.
      h.found t rest taken ∙ ap (λ x. first_broken (asks 306 word.line (has_capacity x) ∷ (map (capacity_of t width) (positions_after (word ∷ h.before) left) ++ rest))) (one_further t (length h.before) width)
      ∙ passes (and_more t (length h.before) width) (map (capacity_of t width) (positions_after (word ∷ h.before) left) ++ rest) (h.taken t taken);
  taken = λ t taken.
      let g = h.taken t taken in
      let more : length new.rows.items ≡ length own.rows.items + 1 = ap length rows ∙ one_longer own.rows.items row in
      record {
        variables = let a = g.variables in let s : length (word ∷ h.before) ≡ length h.before + 1 = one_prefix word h.before in omega (arith, a, more, s);
        places = ap (λ n. t.places + n * width) (one_prefix word h.before) ∙ (let b = g.places in let c : t.places + (length h.before + 1) * width ≡ (t.places + length h.before * width) + width = omega arith in c ∙ ap (λ n. n + width) b ∙ sym size);
      };
  held = λ b first vs e wide represents g.
      subst (λ xs. HoldsRows b first xs new) (append_assoc vs h.done (as_variable d word ∷ []))
      (holds_more b first (vs ++ h.done) (as_variable d word) row width own new (h.held b first vs e wide represents g) (e ∙ ap Some (sym type)) wide (ap (is_allowed_in d.section) type ∙ represents) section begins initial rows size fields);
  joined = append_assoc h.done (as_variable d word ∷ []) (map (as_variable d) left) ∙ h.joined;
  counted = let c = h.counted in let s : length (word ∷ h.before) ≡ length h.before + 1 = one_prefix word h.before in let r : length (word ∷ left) ≡ length left + 1 = one_prefix word left in omega (arith, c, s, r);
  names = names ∙ h.names;
  small = λ g. small;
  is_block = is_block ∙ h.is_block;
}
  where
    one_prefix : {X : Type 0} (x : X) (xs : List X) → length (x ∷ xs) ≡ length xs + 1
    one_prefix x xs = omega arith

    one_longer : {X : Type 0} (xs : List X) (x : X) → length (xs ++ x ∷ []) ≡ length xs + 1
    one_longer xs x = length-append xs (x ∷ [])
