-- The places of a program's frame that keep their values: addresses, and paths.
use Rattle.wc_model.proofs.Common.{◌≡◌, ℕ, ◌+◌, ◌-◌, ◌<◌, ◌≤◌, Bool, true, false, List, ◌++◌, map, length, Option, Some, None, option_map, refl, sym, ap, ◌∙◌, ◌⊎◌, inl, inr, arith, length-append, if◌then◌else◌, option_and_then, slice_get, length-map, cases_lt, slice_get-map, slice_get_within, list_any, list_all}
use Rattle.wc_model.specs.Definitions.{ToPlace, direct_lead, lead_from, same_lead, carried_within, number_if_kept_within, is_block, DirectVariable, direct_variables, kind_of_direct, numbers_below, frame_of, place_number, is_kind, Name, Scope, Location, Direct, Path, Content, program_frame, same_direct, same_path, unit_places, zero_of}
use Rattle.wc_model.specs.declared.kind.Kind.{Kind}
use Rattle.wc_model.specs.declared.kind.Kind.TheVariants.{Bool as KindBool, Dint as KindDint, Time as KindTime}
use Rattle.wc_names.specs.{kept_from, Represents, first_place}
use Rattle.wc_built_in.specs.Fields.{direct_at}
use Rattle.wc_names.specs.declared.unit_table.UnitTable.{UnitTable}
use Rattle.wc_names.proofs.OwnPlaces.{unit_own}
use Rattle.wc_names.proofs.Positions.{position_on}
use Rattle.wc_names.proofs.Lists.{found_within}
use Rattle.wc_names.proofs.ScopeTables.{address_in_program, all_below, as_entry, directs, frame_path}
use Rattle.wc_names.proofs.VariablePlaces.{prefix_item, later_item}
use Rattle.wc_laws_language.proofs.Tests.{same_direct-sound}

-- a program's frame, as a list in two parts
program_is : (scope : Scope) → is_block scope.unit ≡ false → frame_of scope ≡ directs ++ map as_entry (unit_places scope.before scope.unit)
program_is scope e = ap (λ b. if b then map (λ p. (Path p.0, p.1)) (unit_places scope.before scope.unit) else program_frame scope.before scope.unit) e

-- the directly represented variable of a number is there, by a test of each number
is_at : ℕ → Option DirectVariable → Bool
is_at n (Some v) = same_direct v (direct_at n)
is_at n None = false

is_at-sound : (n : ℕ) (o : Option DirectVariable) → is_at n o ≡ true → o ≡ Some (direct_at n)
unfolding is_at
is_at-sound n (Some v) e = ap Some (same_direct-sound v (direct_at n) e)
is_at-sound n None e = cc

each_holds : list_all (λ n. is_at n (slice_get direct_variables n)) (numbers_below 45) ≡ true
unfolding is_at
each_holds = refl

each_is_one : list_all (λ n. list_any (same_direct (direct_at n)) direct_variables) (numbers_below 45) ≡ true
each_is_one = refl

one_kind : (k : Kind) → is_kind k k ≡ true
one_kind KindBool = refl
one_kind KindDint = refl
one_kind KindTime = refl

-- what is at an address's number
address_there : (scope : Scope) (n : ℕ) → is_block scope.unit ≡ false → n < 45 → slice_get (frame_of scope) n ≡ Some (Direct (direct_at n), zero_of (kind_of_direct (direct_at n)))
address_there scope n program below =
    ap (λ frame. slice_get frame n) (program_is scope program)
    ∙ prefix_item directs (map as_entry (unit_places scope.before scope.unit)) n below
    ∙ slice_get-map (λ w. (Direct w, zero_of (kind_of_direct w))) direct_variables n
    ∙ ap (option_map (λ w. (Direct w, zero_of (kind_of_direct w)))) (is_at-sound n (slice_get direct_variables n) (all_below (λ k. is_at k (slice_get direct_variables k)) 45 n each_holds below))

-- an address keeps its value and its number
pub address_kept : (scope old : Scope) (n : ℕ) → is_block scope.unit ≡ false → is_block old.unit ≡ false → n < 45 → Some n ≡ carried_within old scope n
address_kept scope old n program old_program below =
    let v = direct_at n in
    let lead : direct_lead v ≡ Some (ToPlace (kind_of_direct v)) = ap (λ b. if b then Some (ToPlace (kind_of_direct v)) else None) (all_below (λ k. list_any (same_direct (direct_at k)) direct_variables) 45 n each_is_one below) in
    let same : same_lead (direct_lead v) (direct_lead v) ≡ true = ap (λ l. same_lead l l) lead ∙ one_kind (kind_of_direct v) in
    address_in_program old n (Some v) old_program below refl ∙ sym (ap (λ b. if b then place_number (frame_of old) (Direct v) else None) same)
    ∙ sym (ap (option_and_then (number_if_kept_within old scope)) (address_there scope n program below))

-- the path with a number after the addresses
pub record PathAt (scope : Scope) (n : ℕ) : Type 0 where
  pub entry : List Name × Content
  pub there : slice_get (unit_places scope.before scope.unit) (n - first_place scope.unit) ≡ Some entry
  pub least : first_place scope.unit ≤ n
  pub framed : slice_get (frame_of scope) n ≡ Some (Path entry.0, entry.1)

pub path_at : (scope : Scope) (n : ℕ) → is_block scope.unit ≡ false → 45 ≤ n → n < length (frame_of scope) → PathAt scope n
path_at scope n program following within =
    let places = unit_places scope.before scope.unit in
    let first : first_place scope.unit ≡ 45 = ap (λ b. if b then 0 else 45) program in
    let size : length (frame_of scope) ≡ 45 + length places =
    ap length (program_is scope program) ∙ length-append directs (map as_entry places) ∙ ap (λ k. 45 + k) (length-map places as_entry)
    in
    let at = found_within places (n - 45) (omega (arith, size, following, within)) in
    let split : n ≡ length directs + (n - 45) = omega (arith, following) in
    record {
      entry = at.0;
      there = ap (λ k. slice_get places (n - k)) first ∙ at.1;
      least = omega (arith, first, following);
      framed = ap (λ frame. slice_get frame n) (program_is scope program) ∙ ap (slice_get (directs ++ map as_entry places)) split ∙ later_item directs (map as_entry places) (n - 45)
          ∙ slice_get-map as_entry places (n - 45) ∙ ap (option_map as_entry) at.1;
    }

pub path_kept : (scope old : Scope) (n : ℕ) (at : PathAt scope n) → kept_from scope.before scope.unit old.before old.unit at.entry.0 ≡ carried_within old scope n
path_kept scope old n at =
    sym (ap (λ o. if same_lead (lead_from at.entry.0 old.before old.unit) (lead_from at.entry.0 scope.before scope.unit) then o else None) (frame_path old at.entry.0))
    ∙ sym (ap (option_and_then (number_if_kept_within old scope)) at.framed)

-- each place of a program's frame is at its own number
pub own_frame : (units : List UnitTable) (scope : Scope) → Represents units scope.before scope.unit → is_block scope.unit ≡ false → (n : ℕ) (entry : Location × Content) → slice_get (frame_of scope) n ≡ Some entry → place_number (frame_of scope) entry.0 ≡ Some n
own_frame units scope h program n entry there = by (cases_lt n 45)
  where
    by : (n < 45) ⊎ (45 ≤ n) → place_number (frame_of scope) entry.0 ≡ Some n
    by (inl below) =
        let same : Some (Direct (direct_at n), zero_of (kind_of_direct (direct_at n))) ≡ Some entry = sym (address_there scope n program below) ∙ there in
        let is : (Direct (direct_at n), zero_of (kind_of_direct (direct_at n))) ≡ entry = cc in
        ap (λ (e : Location × Content). place_number (frame_of scope) e.0) (sym is) ∙ sym (address_in_program scope n (Some (direct_at n)) program below refl)
    by (inr past) =
        let at = path_at scope n program past (slice_get_within (frame_of scope) n entry there) in
        let same : Some (Path at.entry.0, at.entry.1) ≡ Some entry = sym at.framed ∙ there in
        let is : (Path at.entry.0, at.entry.1) ≡ entry = cc in
        let first = first_place scope.unit in
        ap (λ (e : Location × Content). place_number (frame_of scope) e.0) (sym is) ∙ frame_path scope at.entry.0
        ∙ position_on (λ e. same_path e.0 at.entry.0) first (unit_places scope.before scope.unit)
        ∙ ap (option_map (λ k. first + k)) (unit_own units scope.before scope.unit h (n - first) at.entry at.there)
        ∙ ap Some (let l = at.least in let z : first + (n - first) ≡ n = omega (arith, l) in z)
