-- What is seen of flat codes is what is seen of the units of a text, through all depths of calls.
use Rattle.wc_model.proofs.Common.{◌≡◌, ℕ, zero, suc, ◌≤◌, ◌<◌, Bool, true, false, List, [], ◌∷◌, ◌++◌, map, length, Option, Some, None, ℤ, append_assoc, refl, sym, ap, subst, ◌∙◌, arith, eq-eqb, eqb-true}
use Rattle.std.proofs.lemmas.List.{length-append}
use Rattle.std.specs.Prelude.{◌==◌, if◌then◌else◌, reverse, slice_get}
use Rattle.wc_text_flat.proofs.Programs.{NestWell, AreCodesOf, CallsFollow, found_before, calls_follow}
use Rattle.wc_text_flat.proofs.Sides.{Sides, IsBased, AreAlike}
use Rattle.wc_text_flat.specs.{AreContents, Calls, Skips, calls_below, sources_of, IsLowered}
use Rattle.wc_model.specs.Definitions.{same_name, is_block, block_named, slot_kinds, Outcome, Running, body_means, means, called, Name, Location, Content, Store, ProgramUnit, depth}
use Rattle.wc_model.specs.Language.Meaning as meaning
use Rattle.wc_model.specs.declared.code.Code.{Code}
use Rattle.wc_model.specs.declared.kind.SlotKind.{SlotKind}
use Rattle.wc_laws_language.proofs.Places.{Some-same}
use Rattle.wc_laws_language.proofs.Texts.{turned}
use Rattle.wc_laws_language.specs.SoundnessLaws.{NestsSimply}
use Rattle.wc_text_flat.proofs.BodiesSeen.{lines_seen}
use Rattle.wc_text_flat.proofs.SeenSides.{OutcomeSeen, AreSeenAlike}
use Rattle.wc_text_flat.specs.FlatSeen.{FlatSeen, FlatSeenCalls, flat_seen_body, flat_seen_below}
use Rattle.wc_text_flat.specs.Seen.{Seen, SeenCalls, seen_lines, context_of, seen_of_calls}

-- these are the lines of the text of units that come newest first
abbrev pub AreSourcesOf : List (List ℕ) → List ProgramUnit → Type 0
AreSourcesOf sources [] = Unit {0}
AreSourcesOf sources (unit ∷ before) = (slice_get sources (length before) ≡ Some (sources_of unit.body)) × AreSourcesOf sources before

-- what is seen of flat calls is what is seen of those of the tree, for these units
abbrev pub CallsSeen : List (Location × Content) → List ProgramUnit → meaning.Calls → SeenCalls → FlatSeenCalls → Type 0
CallsSeen frame before calls seen_calls flats = (name : Name) (unit : ProgramUnit) (earlier : List ProgramUnit) → block_named before name ≡ Some (unit, earlier) →
    (names : List Name) (base : ℕ) → IsBased frame (record { before = earlier; unit = unit }) names base →
    (store : Store) (numbers : List ℤ) → AreContents frame store numbers → OutcomeSeen frame (calls name names store) (seen_calls name names store) (flats (length earlier) base numbers)

-- a whole body
pub body_seen : (frame : List (Location × Content)) (before : List ProgramUnit) (unit : ProgramUnit) (names : List Name) (now base : ℕ) (flat_calls : Calls) (flats : FlatSeenCalls) → CallsFollow frame before (called before now) flat_calls → CallsSeen frame before (called before now) (seen_of_calls before now) flats → IsBased frame (record { before = before; unit = unit }) names base → NestsSimply unit.body → depth unit.body ≤ 8 → (code : List Code) → IsLowered (record { before = before; unit = unit }) unit.body code → (found : Option (List Code)) → found ≡ Some code → (sources : Option (List ℕ)) → sources ≡ Some (sources_of unit.body) → (store : Store) (numbers : List ℤ) → AreContents frame store numbers → OutcomeSeen frame (means (context_of before unit names now) unit.body (Running None) store) (seen_lines (context_of before unit names now) (seen_of_calls before now) unit.body (Running None) store) (flat_seen_body (record { base = base; now = now; kinds = slot_kinds frame; calls = flat_calls }) flats sources found numbers)
body_seen frame before unit names now base flat_calls flats follow seen based simple l code lowered found is sources are store numbers contents =
    let w : Sides = record { frame = frame; here = context_of before unit names now; base = base; calls = flat_calls } in
    let alike : AreAlike w = record { based = based; calls_follow = follow } in
    let same : AreSeenAlike w (seen_of_calls before now) flats = record { alike = alike; seen_follow = seen } in
    subst (λ (c : Option (List Code)). OutcomeSeen frame (means (context_of before unit names now) unit.body (Running None) store) (seen_lines (context_of before unit names now) (seen_of_calls before now) unit.body (Running None) store) (flat_seen_body (record { base = base; now = now; kinds = slot_kinds frame; calls = flat_calls }) flats sources c numbers)) (sym is)
    (subst (λ (s : Option (List ℕ)). OutcomeSeen frame (means (context_of before unit names now) unit.body (Running None) store) (seen_lines (context_of before unit names now) (seen_of_calls before now) unit.body (Running None) store) (flat_seen_body (record { base = base; now = now; kinds = slot_kinds frame; calls = flat_calls }) flats s (Some code) numbers)) (sym are)
    (lines_seen w (seen_of_calls before now) flats same unit.body simple l code lowered (Running None) (Skips 0) refl store numbers contents))

-- what is seen of calls of the first units, one more unit at a time
pub this_unit_seen : (kinds : List SlotKind) (codes : List (List Code)) (sources : List (List ℕ)) (now n base : ℕ) (numbers : List ℤ) → flat_seen_below kinds codes sources now (suc n) n base numbers ≡ flat_seen_body (record { base = base; now = now; kinds = kinds; calls = calls_below kinds codes now n }) (flat_seen_below kinds codes sources now n) (slice_get sources n) (slice_get codes n) numbers
this_unit_seen kinds codes sources now n base numbers = ap (λ (b : Bool). elim b as (λ x. List FlatSeen) [ true ↦ flat_seen_body (record { base = base; now = now; kinds = kinds; calls = calls_below kinds codes now n }) (flat_seen_below kinds codes sources now n) (slice_get sources n) (slice_get codes n) numbers | false ↦ flat_seen_below kinds codes sources now n n base numbers ]) (eq-eqb n n refl)

pub earlier_unit_seen : (kinds : List SlotKind) (codes : List (List Code)) (sources : List (List ℕ)) (now n unit base : ℕ) (numbers : List ℤ) → unit < n → flat_seen_below kinds codes sources now (suc n) unit base numbers ≡ flat_seen_below kinds codes sources now n unit base numbers
earlier_unit_seen kinds codes sources now n unit base numbers l = step (unit == n) refl
  where
    step : (b : Bool) → (unit == n) ≡ b → (elim b as (λ x. List FlatSeen) [ true ↦ flat_seen_body (record { base = base; now = now; kinds = kinds; calls = calls_below kinds codes now n }) (flat_seen_below kinds codes sources now n) (slice_get sources n) (slice_get codes n) numbers | false ↦ flat_seen_below kinds codes sources now n unit base numbers ]) ≡ flat_seen_below kinds codes sources now n unit base numbers
    step true e = absurd (let same = eqb-true unit n e in omega (arith, l, same))
    step false e = refl

-- one more unit
pub call_seen_step : (frame : List (Location × Content)) (codes : List (List Code)) (sources : List (List ℕ)) (now : ℕ) (u : ProgramUnit) (before : List ProgramUnit) → NestsSimply u.body → depth u.body ≤ 8 → (code : List Code) → slice_get codes (length before) ≡ Some code → IsLowered (record { before = before; unit = u }) u.body code → slice_get sources (length before) ≡ Some (sources_of u.body) → CallsFollow frame before (called before now) (calls_below (slot_kinds frame) codes now (length before)) → CallsSeen frame before (called before now) (seen_of_calls before now) (flat_seen_below (slot_kinds frame) codes sources now (length before)) → CallsSeen frame (u ∷ before) (called (u ∷ before) now) (seen_of_calls (u ∷ before) now) (flat_seen_below (slot_kinds frame) codes sources now (suc (length before)))
call_seen_step frame codes sources now u before simple l code found lowered lines follow seen = λ name unit earlier e names base based store numbers contents.
    step name unit earlier names base based store numbers contents (same_name u.name.name name) e
  where
    mine : (unit : ProgramUnit) (earlier : List ProgramUnit) (names : List Name) (base : ℕ) (store : Store) (numbers : List ℤ) → IsBased frame (record { before = earlier; unit = unit }) names base → AreContents frame store numbers → (let that : ProgramUnit × List ProgramUnit = (unit, earlier) in let this : ProgramUnit × List ProgramUnit = (u, before) in that ≡ this) → OutcomeSeen frame (means (context_of before u names now) u.body (Running None) store) (seen_lines (context_of before u names now) (seen_of_calls before now) u.body (Running None) store) (flat_seen_below (slot_kinds frame) codes sources now (suc (length before)) (length earlier) base numbers)
    mine unit earlier names base store numbers based contents same =
        let count : length earlier ≡ length before = ap (λ (p : ProgramUnit × List ProgramUnit). length p.1) same in
        let here : IsBased frame (record { before = before; unit = u }) names base = subst (λ (p : ProgramUnit × List ProgramUnit). IsBased frame (record { before = p.1; unit = p.0 }) names base) same based in
        subst (λ (fs : List FlatSeen). OutcomeSeen frame (means (context_of before u names now) u.body (Running None) store) (seen_lines (context_of before u names now) (seen_of_calls before now) u.body (Running None) store) fs)
        (sym (ap (λ n. flat_seen_below (slot_kinds frame) codes sources now (suc (length before)) n base numbers) count ∙ this_unit_seen (slot_kinds frame) codes sources now (length before) base numbers))
        (body_seen frame before u names now base (calls_below (slot_kinds frame) codes now (length before)) (flat_seen_below (slot_kinds frame) codes sources now (length before)) follow seen here simple l code lowered (slice_get codes (length before)) found (slice_get sources (length before)) lines store numbers contents)

    block : (unit : ProgramUnit) (earlier : List ProgramUnit) (names : List Name) (base : ℕ) → IsBased frame (record { before = earlier; unit = unit }) names base → (store : Store) (numbers : List ℤ) → AreContents frame store numbers → (b : Bool) → (let this : ProgramUnit × List ProgramUnit = (u, before) in let that : ProgramUnit × List ProgramUnit = (unit, earlier) in (if b then Some this else None) ≡ Some that) → OutcomeSeen frame (means (context_of before u names now) u.body (Running None) store) (seen_lines (context_of before u names now) (seen_of_calls before now) u.body (Running None) store) (flat_seen_below (slot_kinds frame) codes sources now (suc (length before)) (length earlier) base numbers)
    block unit earlier names base based store numbers contents true f = mine unit earlier names base store numbers based contents (let this : ProgramUnit × List ProgramUnit = (u, before) in let that : ProgramUnit × List ProgramUnit = (unit, earlier) in Some-same this that f)
    block unit earlier names base based store numbers contents false f = cc

    step : (name : Name) (unit : ProgramUnit) (earlier : List ProgramUnit) (names : List Name) (base : ℕ) → IsBased frame (record { before = earlier; unit = unit }) names base → (store : Store) (numbers : List ℤ) → AreContents frame store numbers → (b : Bool) → (let this : ProgramUnit × List ProgramUnit = (u, before) in let that : ProgramUnit × List ProgramUnit = (unit, earlier) in (elim b as (λ x. Option (ProgramUnit × List ProgramUnit)) [ true ↦ (if is_block u then Some this else None) | false ↦ block_named before name ]) ≡ Some that) → OutcomeSeen frame (elim b as (λ x. Outcome) [ true ↦ body_means (record { before = before; unit = u }) names now (called before now) store | false ↦ called before now name names store ]) (elim b as (λ x. List Seen) [ true ↦ seen_lines (context_of before u names now) (seen_of_calls before now) u.body (Running None) store | false ↦ seen_of_calls before now name names store ]) (flat_seen_below (slot_kinds frame) codes sources now (suc (length before)) (length earlier) base numbers)
    step name unit earlier names base based store numbers contents true f = block unit earlier names base based store numbers contents (is_block u) f
    step name unit earlier names base based store numbers contents false f =
        subst (λ (fs : List FlatSeen). OutcomeSeen frame (called before now name names store) (seen_of_calls before now name names store) fs) (sym (earlier_unit_seen (slot_kinds frame) codes sources now (length before) (length earlier) base numbers (found_before before name unit earlier f)))
        (seen name unit earlier f names base based store numbers contents)

-- calls of all units before
pub calls_seen : (frame : List (Location × Content)) (codes : List (List Code)) (sources : List (List ℕ)) (now : ℕ) (before : List ProgramUnit) → NestWell before → AreCodesOf codes before → AreSourcesOf sources before → CallsSeen frame before (called before now) (seen_of_calls before now) (flat_seen_below (slot_kinds frame) codes sources now (length before))
calls_seen frame codes sources now [] well are lines = λ name unit earlier e names base based store numbers contents. cc
calls_seen frame codes sources now (u ∷ before) well are lines =
    subst (λ n. CallsSeen frame (u ∷ before) (called (u ∷ before) now) (seen_of_calls (u ∷ before) now) (flat_seen_below (slot_kinds frame) codes sources now n)) (let a : suc (length before) ≡ length (u ∷ before) = omega arith in a)
    (call_seen_step frame codes sources now u before well.0 well.1 are.0 are.1 are.2 lines.0 (calls_follow frame codes now before well.2 are.3) (calls_seen frame codes sources now before well.2 are.3 lines.1))

-- the lines of the text of units in text order, after those before
pub at_sources_seam : (prefix rest : List (List ℕ)) (source : List ℕ) (n : ℕ) → length prefix ≡ n → slice_get (prefix ++ source ∷ rest) n ≡ Some source
at_sources_seam [] rest source zero e = refl
at_sources_seam [] rest source (suc n) e = absurd (omega (arith, e))
at_sources_seam (c ∷ prefix) rest source zero e = absurd (omega (arith, e))
at_sources_seam (c ∷ prefix) rest source (suc n) e = at_sources_seam prefix rest source n (omega (arith, e))

abbrev pub unit_sources : ProgramUnit → List ℕ
unit_sources unit = sources_of unit.body

pub sources_are : (units before : List ProgramUnit) (prefix : List (List ℕ)) → length prefix ≡ length before → AreSourcesOf (prefix ++ map unit_sources units) before → AreSourcesOf (prefix ++ map unit_sources units) (reverse units ++ before)
sources_are [] before prefix e are = are
sources_are (unit ∷ units) before prefix e are =
    let rest : List (List ℕ) = map unit_sources units in
    let own : List ℕ = unit_sources unit in
    let joined : (prefix ++ own ∷ []) ++ rest ≡ prefix ++ own ∷ rest = append_assoc prefix (own ∷ []) rest in
    let more : AreSourcesOf (prefix ++ own ∷ rest) (unit ∷ before) = (at_sources_seam prefix rest own (length before) e, are) in
    let so_many : length (prefix ++ own ∷ []) ≡ length (unit ∷ before) = let a = length-append prefix (own ∷ []) in omega (arith, a, e) in
    subst (AreSourcesOf (prefix ++ own ∷ rest)) (turned unit units before)
    (subst (λ (ss : List (List ℕ)). AreSourcesOf ss (reverse units ++ (unit ∷ before))) joined
    (sources_are units (unit ∷ before) (prefix ++ own ∷ []) so_many (subst (λ (ss : List (List ℕ)). AreSourcesOf ss (unit ∷ before)) (sym joined) more)))
