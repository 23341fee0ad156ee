-- The first places of a program's frame, and the last of a text's units.
use Rattle.std.proofs.Common.{◌≡◌, ℕ, zero, suc, ◌+◌, ◌<◌, ◌≤◌, Bool, true, ◌&&◌, List, [], ◌∷◌, ◌++◌, map, reverse, length, Some, ℤ, refl, ap, sym, ◌∙◌, subst, arith, append_assoc, length-append, ◌⊎◌, inl, inr}
use Rattle.wc_model.proofs.Common.{slice_get, and_parts}
use Rattle.std.proofs.lemmas.List.{reverse-append, append-nil}
use Rattle.wc_text_flat.proofs.Held.{below_next}
use Rattle.wc_text_flat.proofs.Texts.{Newest, newest}
use Rattle.wc_text_flat.specs.{frame_of_reversed, frame_of_text, is_slot}
use Rattle.wc_execution.specs.Lines.{AreAll}
use Rattle.wc_model.specs.Language.Checks.{Position, positions_of, positions_after}
use Rattle.wc_model.specs.Definitions.{direct_variables, kind_of_direct, slot_kinds, slot_kind_of, IsProgramBound, IsBoundOfLast, Path, program_frame, unit_places, zero_of, ProgramUnit, Text, IsBoundAt, IsRead}
use Rattle.wc_model.specs.declared.image.Outputs.{Outputs}
use Rattle.wc_model.specs.declared.kind.SlotKind.{SlotKind}
use Rattle.wc_model.specs.declared.kind.SlotKind.TheVariants as slots

-- the slots of the directly represented variables
abbrev direct_slots : List SlotKind
direct_slots = map (λ v. slot_kind_of (zero_of (kind_of_direct v))) direct_variables

-- a program's frame begins with them
begins_with : (before : List ProgramUnit) (program : ProgramUnit) → (others : List SlotKind) × (slot_kinds (program_frame before program) ≡ direct_slots ++ others)
begins_with before program = (slot_kinds (map (λ p. (Path p.0, p.1)) (unit_places before program)), refl)

-- what comes first is found in the whole
found_in_prefix : {A : Type 0} (prefix rest : List A) (k : ℕ) → k < length prefix → slice_get (prefix ++ rest) k ≡ slice_get prefix k
found_in_prefix [] rest k below = absurd (omega (arith, below))
found_in_prefix (x ∷ xs) rest zero below = refl
found_in_prefix (x ∷ xs) rest (suc k) below = found_in_prefix xs rest k (omega (arith, below))

-- each of n is of the kind, by a test
abbrev every : SlotKind → List SlotKind → ℕ → ℕ → Bool
every kind prefix first zero = true
every kind prefix first (suc n) = is_slot kind (slice_get prefix (first + n)) && every kind prefix first n

each_is : (kind : SlotKind) (prefix : List SlotKind) (first count : ℕ) → every kind prefix first count ≡ true → (i : ℕ) → i < count → is_slot kind (slice_get prefix (first + i)) ≡ true
each_is kind prefix first zero e i below = absurd (omega (arith, below))
each_is kind prefix first (suc n) e i below = by_next (below_next n i below) (λ h. each_is kind prefix first n (and_parts (is_slot kind (slice_get prefix (first + n))) (every kind prefix first n) e).1 i h)
  where
    by_next : (i < n) ⊎ (i ≡ n) → (i < n → is_slot kind (slice_get prefix (first + i)) ≡ true) → is_slot kind (slice_get prefix (first + i)) ≡ true
    by_next (inl h) onward = onward h
    by_next (inr same) onward = subst (λ k. is_slot kind (slice_get prefix (first + k)) ≡ true) (sym same) (and_parts (is_slot kind (slice_get prefix (first + n))) (every kind prefix first n) e).0

all_in_prefix : (kind : SlotKind) (prefix rest : List SlotKind) (first count : ℕ) → every kind prefix first count ≡ true → first + count ≤ length prefix → AreAll kind (prefix ++ rest) first count
all_in_prefix kind prefix rest first count e within i below =
    subst (λ o. is_slot kind o ≡ true) (sym (found_in_prefix prefix rest (first + i) (omega (arith, within, below)))) (each_is kind prefix first count e i below)

-- the slots of inputs, weights and outputs
pub record AreFirst (kinds : List SlotKind) : Type 0 where
  pub inputs : AreAll slots.Bool kinds 0 22
  pub weights : AreAll slots.Dint kinds 22 3
  pub bits : AreAll slots.Bool kinds 25 16
  pub words : AreAll slots.Dint kinds 41 4
  pub many : 45 ≤ length kinds

first_in_prefix : (rest : List SlotKind) → AreFirst (direct_slots ++ rest)
first_in_prefix rest = record {
  inputs = all_in_prefix slots.Bool direct_slots rest 0 22 refl (omega arith);
  weights = all_in_prefix slots.Dint direct_slots rest 22 3 refl (omega arith);
  bits = all_in_prefix slots.Bool direct_slots rest 25 16 refl (omega arith);
  words = all_in_prefix slots.Dint direct_slots rest 41 4 refl (omega arith);
  many = omega (arith, length-append direct_slots rest);
}

-- a text that is read ends with a program
pub ends_with_program : (bytes : List ℕ) (text : Text) → IsRead bytes text → Newest (reverse text)
ends_with_program bytes text read = subst Newest (append-nil (reverse text)) (newest text [] read.spelled.order)

pub first_places : (bytes : List ℕ) (text : Text) → IsRead bytes text → AreFirst (slot_kinds (frame_of_text text))
first_places bytes text read =
    let new = ends_with_program bytes text read in
    let started = begins_with new.before new.program in
    subst (λ units. AreFirst (slot_kinds (frame_of_reversed units))) (sym new.are) (subst AreFirst (sym started.1) (first_in_prefix started.0))

-- the last of the positions of a list
record LastPosition {X : Type 0} (before : List X) (x : X) (xs : List X) : Type 0 where
  position : Position X
  is : slice_get (positions_after before (x ∷ xs)) (length xs) ≡ Some position
  reversed : reverse (x ∷ xs) ++ before ≡ position.item ∷ position.before

last_position : {X : Type 0} (before : List X) (x : X) (xs : List X) → LastPosition before x xs
last_position before x [] = record { position = record { before = before; item = x; following = [] }; is = refl; reversed = refl }
last_position before x (y ∷ ys) =
    let inner = last_position (x ∷ before) y ys in
    record {
      position = inner.position;
      is = inner.is;
      reversed = ap (λ zs. zs ++ before) (reverse-append (x ∷ []) (y ∷ ys)) ∙ append_assoc (reverse (y ∷ ys)) (x ∷ []) before ∙ inner.reversed;
    }

-- the bound of the last unit is the program's
pub last_bound : (text : Text) (n bound : ℕ) → n + 1 ≡ length text → IsBoundAt text n bound → IsProgramBound text bound
last_bound [] n bound e is = absurd (omega (arith, e))
last_bound (x ∷ xs) n bound e is =
    let last = last_position [] x xs in
    let here : n ≡ length xs = omega (arith, e) in
    let found : slice_get (positions_of (x ∷ xs)) n ≡ Some last.position = ap (λ k. slice_get (positions_of (x ∷ xs)) k) here ∙ last.is in
    let units : reverse (x ∷ xs) ≡ last.position.item ∷ last.position.before = sym (append-nil (reverse (x ∷ xs))) ∙ last.reversed in
    subst (λ us. IsBoundOfLast us bound) (sym units) (rw found at is)

-- outputs are their bits and words
pub same_outputs : (o : Outputs) (bits : ℕ) (words : List ℤ) → o.bits ≡ bits → o.words ≡ words → o ≡ record { bits = bits; words = words }
same_outputs o bits words e f =
    ap (λ b. let p : Outputs = record { bits = b; words = o.words } in p) e ∙ ap (λ w. let p : Outputs = record { bits = bits; words = w } in p) f
