-- Flat codes follow the units of a text, through all depths of calls.
use Rattle.wc_model.proofs.Common.{◌≡◌, ℕ, zero, suc, ◌≤◌, ◌<◌, Bool, true, false, List, [], ◌∷◌, ◌++◌, length, Option, Some, None, ℤ, append_assoc, refl, sym, ap, subst, ◌∙◌, arith, eq-eqb, eqb-true}
use Rattle.std.proofs.lemmas.List.{length-append}
use Rattle.std.specs.Prelude.{◌==◌, if◌then◌else◌, reverse, slice_get}
use Rattle.wc_text_flat.proofs.Bodies.{lines_follow}
use Rattle.wc_text_flat.proofs.Sides.{Sides, IsBased, BodyFollows, AreAlike}
use Rattle.wc_text_flat.specs.{AreContents, Calls, Skips, Ran, body_runs, calls_below, IsLowered, AreLoweredAfter}
use Rattle.wc_model.specs.Definitions.{same_name, is_block, block_named, depth, slot_kinds, Outcome, Running, body_means, called, Name, Scope, Location, Content, Store, ProgramUnit}
use Rattle.wc_model.specs.Language.Meaning as meaning
use Rattle.wc_model.specs.declared.code.Code.{Code}
use Rattle.wc_model.specs.declared.kind.SlotKind.{SlotKind}
use Rattle.wc_laws_language.proofs.Places.{Some-same}
use Rattle.wc_laws_language.proofs.Texts.{turned}
use Rattle.wc_laws_language.specs.SoundnessLaws.{NestsSimply}

-- the bodies of these units nest simply, and not too deep
abbrev pub NestWell : List ProgramUnit → Type 0
NestWell [] = Unit {0}
NestWell (unit ∷ units) = NestsSimply unit.body × (depth unit.body ≤ 8) × NestWell units

-- these are the codes of units that come newest first
abbrev pub AreCodesOf : List (List Code) → List ProgramUnit → Type 0
AreCodesOf codes [] = Unit {0}
AreCodesOf codes (unit ∷ before) = (code : List Code) × (slice_get codes (length before) ≡ Some code) × IsLowered (record { before = before; unit = unit }) unit.body code × AreCodesOf codes before

-- flat calls follow those of the tree, for these units
abbrev pub CallsFollow : List (Location × Content) → List ProgramUnit → meaning.Calls → Calls → Type 0
CallsFollow frame before calls flat_calls = (name : Name) (unit : ProgramUnit) (earlier : List ProgramUnit) → block_named before name ≡ Some (unit, earlier) →
    (names : List Name) (base : ℕ) → IsBased frame (record { before = earlier; unit = unit }) names base →
    (store : Store) (numbers : List ℤ) → AreContents frame store numbers → BodyFollows frame (calls name names store) (flat_calls (length earlier) base numbers)

-- a whole body
pub body_follows : (frame : List (Location × Content)) (scope : Scope) (names : List Name) (now base : ℕ) (calls : meaning.Calls) (flat_calls : Calls) → CallsFollow frame scope.before calls flat_calls → IsBased frame scope names base → NestsSimply scope.unit.body → depth scope.unit.body ≤ 8 → (code : List Code) → IsLowered scope scope.unit.body code → (found : Option (List Code)) → found ≡ Some code → (store : Store) (numbers : List ℤ) → AreContents frame store numbers → BodyFollows frame (body_means scope names now calls store) (body_runs (record { base = base; now = now; kinds = slot_kinds frame; calls = flat_calls }) found numbers)
body_follows frame scope names now base calls flat_calls follow based simple l code lowered found is store numbers contents =
    let w : Sides = record { frame = frame; here = record { scope = scope; instance = names; now = now; calls = calls }; base = base; calls = flat_calls } in
    let alike : AreAlike w = record { based = based; calls_follow = follow } in
    subst (λ (c : Option (List Code)). BodyFollows frame (body_means scope names now calls store) (body_runs (record { base = base; now = now; kinds = slot_kinds frame; calls = flat_calls }) c numbers)) (sym is)
    (lines_follow w alike scope.unit.body simple l code lowered (Running None) (Skips 0) refl store numbers contents)

-- what is found as a block comes before
pub found_before : (before : List ProgramUnit) (name : Name) (unit : ProgramUnit) (earlier : List ProgramUnit) → block_named before name ≡ Some (unit, earlier) → length earlier < length before
found_before [] name unit earlier e = cc
found_before (u ∷ before) name unit earlier e = step (same_name u.name.name name) e (λ f. found_before before name unit earlier f)
  where
    this : ProgramUnit × List ProgramUnit
    this = (u, before)

    that : ProgramUnit × List ProgramUnit
    that = (unit, earlier)

    block : (b : Bool) → (if b then Some this else None) ≡ Some that → length earlier < length (u ∷ before)
    block true f = let same : length earlier ≡ length before = ap (λ (p : ProgramUnit × List ProgramUnit). length p.1) (Some-same this that f) in omega (arith, same)
    block false f = cc

    step : (b : Bool) → (elim b as (λ x. Option (ProgramUnit × List ProgramUnit)) [ true ↦ (if is_block u then Some this else None) | false ↦ block_named before name ]) ≡ Some that → (block_named before name ≡ Some that → length earlier < length before) → length earlier < length (u ∷ before)
    step true f onward = block (is_block u) f
    step false f onward = let l = onward f in omega (arith, l)

-- calls of the first units, one more unit at a time
pub this_unit : (kinds : List SlotKind) (codes : List (List Code)) (now n base : ℕ) (numbers : List ℤ) → calls_below kinds codes now (suc n) n base numbers ≡ body_runs (record { base = base; now = now; kinds = kinds; calls = calls_below kinds codes now n }) (slice_get codes n) numbers
this_unit kinds codes now n base numbers = ap (λ (b : Bool). elim b as (λ x. Option Ran) [ true ↦ body_runs (record { base = base; now = now; kinds = kinds; calls = calls_below kinds codes now n }) (slice_get codes n) numbers | false ↦ calls_below kinds codes now n n base numbers ]) (eq-eqb n n refl)

pub earlier_unit : (kinds : List SlotKind) (codes : List (List Code)) (now n unit base : ℕ) (numbers : List ℤ) → unit < n → calls_below kinds codes now (suc n) unit base numbers ≡ calls_below kinds codes now n unit base numbers
earlier_unit kinds codes now n unit base numbers l = step (unit == n) refl
  where
    step : (b : Bool) → (unit == n) ≡ b → (elim b as (λ x. Option Ran) [ true ↦ body_runs (record { base = base; now = now; kinds = kinds; calls = calls_below kinds codes now n }) (slice_get codes n) numbers | false ↦ calls_below kinds codes now n unit base numbers ]) ≡ calls_below kinds codes now n unit base numbers
    step true e = absurd (let same = eqb-true unit n e in omega (arith, l, same))
    step false e = refl

-- one more unit
pub call_step : (frame : List (Location × Content)) (codes : List (List Code)) (now : ℕ) (u : ProgramUnit) (before : List ProgramUnit) → NestsSimply u.body → depth u.body ≤ 8 → (code : List Code) → slice_get codes (length before) ≡ Some code → IsLowered (record { before = before; unit = u }) u.body code → CallsFollow frame before (called before now) (calls_below (slot_kinds frame) codes now (length before)) → CallsFollow frame (u ∷ before) (called (u ∷ before) now) (calls_below (slot_kinds frame) codes now (suc (length before)))
call_step frame codes now u before simple l code found lowered follow = λ name unit earlier e names base based store numbers contents.
    step name unit earlier names base based store numbers contents (same_name u.name.name name) e
  where
    mine : (name : Name) (unit : ProgramUnit) (earlier : List ProgramUnit) (names : List Name) (base : ℕ) (store : Store) (numbers : List ℤ) → IsBased frame (record { before = earlier; unit = unit }) names base → AreContents frame store numbers → (let that : ProgramUnit × List ProgramUnit = (unit, earlier) in let this : ProgramUnit × List ProgramUnit = (u, before) in that ≡ this) → BodyFollows frame (body_means (record { before = before; unit = u }) names now (called before now) store) (calls_below (slot_kinds frame) codes now (suc (length before)) (length earlier) base numbers)
    mine name unit earlier names base store numbers based contents same =
        let count : length earlier ≡ length before = ap (λ (p : ProgramUnit × List ProgramUnit). length p.1) same in
        let here : IsBased frame (record { before = before; unit = u }) names base = subst (λ (p : ProgramUnit × List ProgramUnit). IsBased frame (record { before = p.1; unit = p.0 }) names base) same based in
        subst (λ (o : Option Ran). BodyFollows frame (body_means (record { before = before; unit = u }) names now (called before now) store) o)
        (sym (ap (λ n. calls_below (slot_kinds frame) codes now (suc (length before)) n base numbers) count ∙ this_unit (slot_kinds frame) codes now (length before) base numbers))
        (body_follows frame (record { before = before; unit = u }) names now base (called before now) (calls_below (slot_kinds frame) codes now (length before)) follow here simple l code lowered (slice_get codes (length before)) found store numbers contents)

    block : (name : Name) (unit : ProgramUnit) (earlier : List ProgramUnit) (names : List Name) (base : ℕ) → IsBased frame (record { before = earlier; unit = unit }) names base → (store : Store) (numbers : List ℤ) → AreContents frame store numbers → (b : Bool) → (let this : ProgramUnit × List ProgramUnit = (u, before) in let that : ProgramUnit × List ProgramUnit = (unit, earlier) in (if b then Some this else None) ≡ Some that) → BodyFollows frame (body_means (record { before = before; unit = u }) names now (called before now) store) (calls_below (slot_kinds frame) codes now (suc (length before)) (length earlier) base numbers)
    block name unit earlier names base based store numbers contents true f = mine name unit earlier names base store numbers based contents (let this : ProgramUnit × List ProgramUnit = (u, before) in let that : ProgramUnit × List ProgramUnit = (unit, earlier) in Some-same this that f)
    block name unit earlier names base based store numbers contents false f = cc

    step : (name : Name) (unit : ProgramUnit) (earlier : List ProgramUnit) (names : List Name) (base : ℕ) → IsBased frame (record { before = earlier; unit = unit }) names base → (store : Store) (numbers : List ℤ) → AreContents frame store numbers → (b : Bool) → (let this : ProgramUnit × List ProgramUnit = (u, before) in let that : ProgramUnit × List ProgramUnit = (unit, earlier) in (elim b as (λ x. Option (ProgramUnit × List ProgramUnit)) [ true ↦ (if is_block u then Some this else None) | false ↦ block_named before name ]) ≡ Some that) → BodyFollows frame (elim b as (λ x. Outcome) [ true ↦ body_means (record { before = before; unit = u }) names now (called before now) store | false ↦ called before now name names store ]) (calls_below (slot_kinds frame) codes now (suc (length before)) (length earlier) base numbers)
    step name unit earlier names base based store numbers contents true f = block name unit earlier names base based store numbers contents (is_block u) f
    step name unit earlier names base based store numbers contents false f =
        subst (λ (o : Option Ran). BodyFollows frame (called before now name names store) o) (sym (earlier_unit (slot_kinds frame) codes now (length before) (length earlier) base numbers (found_before before name unit earlier f)))
        (follow name unit earlier f names base based store numbers contents)

-- calls of all units before
pub calls_follow : (frame : List (Location × Content)) (codes : List (List Code)) (now : ℕ) (before : List ProgramUnit) → NestWell before → AreCodesOf codes before → CallsFollow frame before (called before now) (calls_below (slot_kinds frame) codes now (length before))
calls_follow frame codes now [] well are = λ name unit earlier e names base based store numbers contents. cc
calls_follow frame codes now (u ∷ before) well are =
    subst (λ n. CallsFollow frame (u ∷ before) (called (u ∷ before) now) (calls_below (slot_kinds frame) codes now n)) (let a : suc (length before) ≡ length (u ∷ before) = omega arith in a)
    (call_step frame codes now u before well.0 well.1 are.0 are.1 are.2 (calls_follow frame codes now before well.2 are.3))

-- the codes of units in text order, after those before
pub at_seam : (prefix rest : List (List Code)) (code : List Code) (n : ℕ) → length prefix ≡ n → slice_get (prefix ++ code ∷ rest) n ≡ Some code
at_seam [] rest code zero e = refl
at_seam [] rest code (suc n) e = absurd (omega (arith, e))
at_seam (c ∷ prefix) rest code zero e = absurd (omega (arith, e))
at_seam (c ∷ prefix) rest code (suc n) e = at_seam prefix rest code n (omega (arith, e))

pub codes_of : (units before : List ProgramUnit) (prefix rest : List (List Code)) → length prefix ≡ length before → AreLoweredAfter before units rest → AreCodesOf (prefix ++ rest) before → AreCodesOf (prefix ++ rest) (reverse units ++ before)
codes_of [] before prefix [] e lowered are = are
codes_of [] before prefix (code ∷ rest) e lowered are = absurd lowered
codes_of (unit ∷ units) before prefix [] e lowered are = absurd lowered
codes_of (unit ∷ units) before prefix (code ∷ rest) e lowered are =
    let joined : (prefix ++ code ∷ []) ++ rest ≡ prefix ++ code ∷ rest = append_assoc prefix (code ∷ []) rest in
    let more : AreCodesOf (prefix ++ code ∷ rest) (unit ∷ before) = (code, at_seam prefix rest code (length before) e, lowered.0, are) in
    let so_many : length (prefix ++ code ∷ []) ≡ length (unit ∷ before) = let a = length-append prefix (code ∷ []) in omega (arith, a, e) in
    subst (AreCodesOf (prefix ++ code ∷ rest)) (turned unit units before)
    (subst (λ (cs : List (List Code)). AreCodesOf cs (reverse units ++ (unit ∷ before))) joined
    (codes_of units (unit ∷ before) (prefix ++ code ∷ []) rest so_many lowered.1 (subst (λ (cs : List (List Code)). AreCodesOf cs (unit ∷ before)) (sym joined) more)))

-- as many codes as units
pub codes_length : (before units : List ProgramUnit) (codes : List (List Code)) → AreLoweredAfter before units codes → length codes ≡ length units
codes_length before [] [] lowered = refl
codes_length before [] (code ∷ codes) lowered = absurd lowered
codes_length before (unit ∷ units) [] lowered = absurd lowered
codes_length before (unit ∷ units) (code ∷ codes) lowered = let e = codes_length (unit ∷ before) units codes lowered.1 in omega (arith, e)
