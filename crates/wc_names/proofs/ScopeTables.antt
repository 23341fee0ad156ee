-- The table of a unit by its number, and the unit's frame.
use Rattle.wc_model.proofs.Common.{◌≡◌, ℕ, zero, suc, ◌+◌, ◌<◌, ◌≢◌, Bool, true, false, ◌&&◌, List, [], ◌∷◌, ◌++◌, map, length, Option, Some, None, option_map, refl, sym, ap, subst, ◌∙◌, arith, ◌==◌, length-append, slice_get, option_and_then, length-map, eq-eqb, eqb-true, list_all, position_from}
use Rattle.wc_model.specs.Definitions.{positions_after, is_block, variables_of, DirectVariable, direct_variables, kind_of_direct, numbers_below, frame_of, place_number, scope_of_position, Name, Scope, Content, Location, Direct, Path, same_path, same_place, unit_places, zero_of, ProgramUnit, Text}
use Rattle.wc_built_in.specs.Fields.{direct_at}
use Rattle.wc_names.specs.RepresentsText.{AreUnits, Represents, first_place, onto}
use Rattle.wc_names.specs.declared.unit_table.UnitTable.{UnitTable}
use Rattle.wc_built_in.proofs.FieldTables.{position_from-map}
use Rattle.wc_names.proofs.Lists.{get_more}
use Rattle.wc_names.proofs.Lookups.{place_from}
use Rattle.wc_names.proofs.Places.{places_end, prefix_holds, holds_further}
use Rattle.wc_names.proofs.Positions.{or_else, position_append, position_none}

-- the tables of the first units
peel : (xs : Text) (b : List ProgramUnit) (ts : List UnitTable) → AreUnits (onto xs b) ts → (others : List UnitTable) × AreUnits b others × ((k : ℕ) (t : UnitTable) → slice_get others k ≡ Some t → slice_get ts k ≡ Some t)
peel [] b ts h = (ts, h, λ k t e. e)
peel (x ∷ xs) b ts h =
    let r = peel xs (x ∷ b) ts h in
    let g = r.1 in
    (g.0, g.4, λ k t e. r.2 k t (ap (λ zs. slice_get zs k) g.2 ∙ get_more g.0 (g.1 ∷ []) k t e))

-- counted from 0, a number is the count of what follows
pub from_0 : {n m : ℕ} → 0 + n ≡ m → n ≡ m
from_0 {n} {m} e = omega (arith, e)

-- a unit by its number
pub at_unit : (xs : Text) (b : List ProgramUnit) (ts : List UnitTable) (n : ℕ) (scope : Scope) → AreUnits (onto xs b) ts → slice_get (map scope_of_position (positions_after b xs)) n ≡ Some scope →
    Represents ts scope.before scope.unit × (length b + n ≡ length scope.before)
at_unit [] b ts n scope h e = cc
at_unit (x ∷ xs) b ts zero scope h e =
    let r = peel xs (x ∷ b) ts h in
    let here : Scope = record { before = b; unit = x } in
    let same : here ≡ scope = cc in
    subst (λ s. Represents ts s.before s.unit × (length b + zero ≡ length s.before)) same (holds_further r.0 ts b x r.2 (prefix_holds x b r.0 r.1), omega arith)
at_unit (x ∷ xs) b ts (suc n) scope h e =
    let r = at_unit xs (x ∷ b) ts n scope h e in
    let l = r.1 in
    (r.0, omega (arith, l))

-- each unit has a table
as_many : (units : List ProgramUnit) (ts : List UnitTable) → AreUnits units ts → length ts ≡ length units
as_many [] ts h = ap length h
as_many (unit ∷ before) ts h =
    let others : List UnitTable = h.0 in
    let table : UnitTable = h.1 in
    let fewer = as_many before others h.4 in
    let all = ap length h.2 ∙ length-append others (table ∷ []) in
    omega (arith, fewer, all)

-- there are as many tables as units
pub all_units : (xs : Text) (b : List ProgramUnit) (ts : List UnitTable) → AreUnits (onto xs b) ts → length ts ≡ length b + length xs
all_units [] b ts h = let all = as_many b ts h in omega (arith, all)
all_units (x ∷ xs) b ts h = let rest = all_units xs (x ∷ b) ts h in omega (arith, rest)

-- a path in a unit's frame
path_in : (ns : List Name) (i : ℕ) (places : List (List Name × Content)) → position_from (λ (e : Location × Content). same_place e.0 (Path ns)) i (map (λ p. (Path p.0, p.1)) places) ≡ position_from (λ e. same_path e.0 ns) i places
path_in ns i places = position_from-map (λ p. (Path p.0, p.1)) (λ (e : Location × Content). same_place e.0 (Path ns)) i places

abbrev pub directs : List (Location × Content)
directs = map (λ v. (Direct v, zero_of (kind_of_direct v))) direct_variables

frame_by : (scope : Scope) (ns : List Name) (b : Bool) → is_block scope.unit ≡ b → place_number (frame_of scope) (Path ns) ≡ place_from scope.before scope.unit ns
frame_by scope ns true e = rw e (path_in ns 0 (unit_places scope.before scope.unit))
frame_by scope ns false e = rw e (
    position_append (λ (x : Location × Content). same_place x.0 (Path ns)) 0 directs (map (λ p. (Path p.0, p.1)) (unit_places scope.before scope.unit))
    ∙ path_in ns 45 (unit_places scope.before scope.unit))

pub frame_path : (scope : Scope) (ns : List Name) → place_number (frame_of scope) (Path ns) ≡ place_from scope.before scope.unit ns
frame_path scope ns = frame_by scope ns (is_block scope.unit) refl

-- an address in a unit's frame
no_direct : (v : DirectVariable) (i : ℕ) (places : List (List Name × Content)) → position_from (λ (e : Location × Content). same_place e.0 (Direct v)) i (map (λ p. (Path p.0, p.1)) places) ≡ None
no_direct v i places = position_from-map (λ p. (Path p.0, p.1)) (λ (e : Location × Content). same_place e.0 (Direct v)) i places ∙ position_none i places

pub address_in_block : (scope : Scope) (v : Option DirectVariable) → is_block scope.unit ≡ true → option_and_then (place_number (frame_of scope)) (option_map Direct v) ≡ None
address_in_block scope None e = refl
address_in_block scope (Some v) e = rw e (no_direct v 0 (unit_places scope.before scope.unit))

is_at : ℕ → Option ℕ → Bool
is_at n (Some m) = n == m
is_at n None = false

is_at-sound : (n : ℕ) (o : Option ℕ) → is_at n o ≡ true → o ≡ Some n
unfolding is_at
is_at-sound n (Some m) e = ap Some (sym (eqb-true n m e))
is_at-sound n None e = cc

abbrev direct_number : ℕ → Option ℕ
direct_number n = position_from (λ (e : Location × Content). same_place e.0 (Direct (direct_at n))) 0 directs

all_there : list_all (λ n. is_at n (direct_number n)) (numbers_below 45) ≡ true
unfolding is_at
all_there = refl

all_append : (p : ℕ → Bool) (xs : List ℕ) (n : ℕ) → list_all p (xs ++ n ∷ []) ≡ true → (list_all p xs ≡ true) × (p n ≡ true)
all_append p [] n e = (refl, first (p n) e)
  where
    first : (b : Bool) → (b && true) ≡ true → b ≡ true
    first true h = refl
    first false h = cc
all_append p (x ∷ xs) n e =
    let parts = both (p x) (list_all p (xs ++ n ∷ [])) e in
    let r = all_append p xs n parts.1 in
    (join (p x) (list_all p xs) parts.0 r.0, r.1)
  where
    both : (a b : Bool) → (a && b) ≡ true → (a ≡ true) × (b ≡ true)
    both true b h = (refl, h)
    both false b h = cc

    join : (a b : Bool) → a ≡ true → b ≡ true → (a && b) ≡ true
    join a b p q = rw p q

pub all_below : (p : ℕ → Bool) (n m : ℕ) → list_all p (numbers_below n) ≡ true → m < n → p m ≡ true
all_below p zero m e below = absurd (omega arith)
all_below p (suc n) m e below =
    let parts = all_append p (numbers_below n) n e in
    by (m == n) refl (λ l. all_below p n m parts.0 l) parts.1
  where
    by : (b : Bool) → (m == n) ≡ b → (m < n → p m ≡ true) → p n ≡ true → p m ≡ true
    by true s a l = subst (λ k. p k ≡ true) (sym (eqb-true m n s)) l
    by false s a l = a (let d : m ≢ n = λ same. (let t : (m == n) ≡ true = eq-eqb m n same in cc) in omega (arith, d))

found_direct : (n : ℕ) (rest : List (Location × Content)) → n < 45 → position_from (λ (e : Location × Content). same_place e.0 (Direct (direct_at n))) 0 (directs ++ rest) ≡ Some n
found_direct n rest below =
    position_append (λ (e : Location × Content). same_place e.0 (Direct (direct_at n))) 0 directs rest
    ∙ ap (λ o. or_else o (position_from (λ (e : Location × Content). same_place e.0 (Direct (direct_at n))) 45 rest)) (is_at-sound n (direct_number n) (all_below (λ k. is_at k (direct_number k)) 45 n all_there below))

pub address_in_program : (scope : Scope) (n : ℕ) (v : Option DirectVariable) → is_block scope.unit ≡ false → n < 45 → Some (direct_at n) ≡ v → Some n ≡ option_and_then (place_number (frame_of scope)) (option_map Direct v)
address_in_program scope n v e below is =
    sym (ap (λ o. option_and_then (place_number (frame_of scope)) (option_map Direct o)) (sym is) ∙ program e)
  where
    program : is_block scope.unit ≡ false → place_number (frame_of scope) (Direct (direct_at n)) ≡ Some n
    program f = rw f (found_direct n (map (λ p. (Path p.0, p.1)) (unit_places scope.before scope.unit)) below)

abbrev pub as_entry : List Name × Content → Location × Content
as_entry p = (Path p.0, p.1)

-- a table's size is its frame's
frame_size_by : (scope : Scope) (size : ℕ) (b : Bool) → is_block scope.unit ≡ b → first_place scope.unit + length (unit_places scope.before scope.unit) ≡ size → size ≡ length (frame_of scope)
frame_size_by scope size true e h =
    let places = unit_places scope.before scope.unit in
    let f : first_place scope.unit ≡ 0 = rw e refl in
    let l : length (map as_entry places) ≡ length places = length-map places as_entry in
    let k : size ≡ length (map as_entry places) = omega (arith, f, l, h) in
    k ∙ (rw e refl)
frame_size_by scope size false e h =
    let places = unit_places scope.before scope.unit in
    let f : first_place scope.unit ≡ 45 = rw e refl in
    let l : length (map as_entry places) ≡ length places = length-map places as_entry in
    let a : length (directs ++ map as_entry places) ≡ 45 + length (map as_entry places) = length-append directs (map as_entry places) in
    let k : size ≡ length (directs ++ map as_entry places) = omega (arith, f, l, h, a) in
    k ∙ (rw e refl)

pub frame_size : (units : List UnitTable) (scope : Scope) (h : Represents units scope.before scope.unit) → h.table.size ≡ length (frame_of scope)
frame_size units scope h = frame_size_by scope h.table.size (is_block scope.unit) refl (places_end scope.before (first_place scope.unit) (variables_of scope.unit) ∙ sym h.is.size)
