-- A program whose bodies break no rule is never stuck.
use Rattle.wc_model.proofs.Common.{◌≡◌, ℕ, Bool, true, false, ◌||◌, List, [], ◌∷◌, ◌++◌, map, Option, Some, None, refl, sym, ap, subst, ◌∙◌, flat_map, list_any, list_all}
use Rattle.std.specs.Option.{option_map}
use Rattle.std.specs.Prelude.{MatchOption, if◌then◌else◌, slice_index_or, pos}
use Rattle.wc_model.specs.Definitions.{step_rules, label_rules, rules_at_position, body_rules, opening_checks, closing_checks, inside_rules, same_name, block_named, is_block, DirectVariable, InputBit, StatusBit, Weight, direct_variables, numbers_below, kind_of_direct, BodyLine, AloneLine, PlainLine, NestedLine, lines_of, Known, known_kinds, kind_at, kind_after_operator, opening_kind, kind_following, Outcome, Done, Stuck, Mode, Running, Seeking, Returned, Effect, Goes, Fails, Context, Calls, arriving, line_effect, nested_effect, means, body_means, called, program_means, Name, is_bit_set, image_contents, overlaid, with_image, Scope, Word, Term, Step, Lines, End, Alone, Plain as PlainLines, Nested, ProgramUnit}
use Rattle.wc_model.specs.Language.Checks.{Check, Position, positions_after}
use Rattle.wc_model.specs.Language.Store.{Location, Direct, Path, Content, Plain, Store, same_direct, same_path, same_place, zero_of, unit_places, store_of, initial_store}
use Rattle.wc_model.specs.declared.image.Image.{Image}
use Rattle.wc_model.specs.declared.kind.Kind.{Kind}
use Rattle.wc_model.specs.declared.kind.Kind.TheVariants.{Bool as KindBool, Dint as KindDint, Time as KindTime}
use Rattle.wc_model.specs.declared.operator.Operator.{Operator}
use Rattle.wc_model.specs.declared.value.Value.{Value}
use Rattle.wc_model.specs.declared.value.Value.TheVariants.{Bool as Truth, Dint}
use Rattle.wc_laws_language.proofs.Bodies.{step_goes, nested_goes, inside_ends, continued_ends, arrives, passes_over, hands_on, led_fits}
use Rattle.wc_laws_language.proofs.Places.{SameSlots-refl, SameSlots-trans, FitsScope-same, Some-same}
use Rattle.wc_laws_language.proofs.Steps.{clean_first, clean_second}
use Rattle.wc_laws_language.proofs.Tests.{both-true, same_direct-sound, same_direct-refl, same_place-sound}
use Rattle.wc_laws_language.specs.{Clean, GoesWell, EndsWell, LeadsTo, CallsEndWell, IsSimple, NestsSimply, AreClean, ModeFits, ArrivedFits, InsideMode, slot_of_kind, slot_of, slot_at, SameSlots, content_at, HoldsDirect, FitsScope}

-- what follows of each mode
pub goes_weaker : (P Q : Mode → Type 0) (store : Store) (e : Effect) → ((mode : Mode) → P mode → Q mode) → GoesWell P store e → GoesWell Q store e
goes_weaker P Q store (Goes mode new items) w h = (w mode h.0, h.1)
goes_weaker P Q store (Fails reason) w h = h

-- any result
abbrev pub Any : Option Value → Type 0
Any result = Unit {0}

-- a plain line goes well, executed or passed over
pub line_goes : (here : Context) (store : Store) → FitsScope store here.instance here.scope → CallsEndWell here.scope.before here.calls → (earlier : List Known) (label : Option Word) (line : ℕ) (step : Step) (following : List BodyLine) (kind : Option Kind) (mode : Mode) → ArrivedFits here.scope earlier (PlainLine label line step) following kind mode → Clean (step_rules here.scope line step following kind) → GoesWell (ModeFits here.scope (record { line = PlainLine label line step; before = kind } ∷ earlier) following) store (line_effect here line step mode store)
line_goes here store fits calls earlier label line step following kind (Running result) a c =
    goes_weaker (LeadsTo here.scope step following kind) (ModeFits here.scope (record { line = PlainLine label line step; before = kind } ∷ earlier) following) store (line_effect here line step (Running result) store)
    (λ mode h. led_fits here.scope earlier label line step following kind mode h) (step_goes here store fits calls line step following kind result a c)
line_goes here store fits calls earlier label line step following kind (Seeking name result) a c = (passes_over here.scope earlier (PlainLine label line step) following kind name result a, SameSlots-refl store)
line_goes here store fits calls earlier label line step following kind (Returned result) a c = (tt, SameSlots-refl store)

-- a line with a parenthesis
abbrev pub ParenthesisRules : Scope → ℕ → Operator → Option Term → Lines → ℕ → Option Kind → List Check
ParenthesisRules scope line operator operand inside close kind = opening_checks scope line operator operand kind ++ inside_rules scope inside (opening_kind scope operand) ++ closing_checks close kind (kind_following scope inside (opening_kind scope operand))

pub three_parts : (a b c : List Check) → Clean ((a ++ b) ++ c) → Clean a × Clean b × Clean c
three_parts a b c h = (clean_first a b (clean_first (a ++ b) c h), clean_second a b (clean_first (a ++ b) c h), clean_second (a ++ b) c h)

pub parenthesis_goes : (here : Context) (store : Store) → FitsScope store here.instance here.scope → CallsEndWell here.scope.before here.calls → (earlier : List Known) (label : Option Word) (line : ℕ) (operator : Operator) (operand : Option Term) (inside : Lines) (close : ℕ) (following : List BodyLine) (kind : Option Kind) (mode : Mode) → IsSimple inside → ArrivedFits here.scope earlier (NestedLine label line operator operand inside close) following kind mode → Clean (ParenthesisRules here.scope line operator operand inside close kind) → GoesWell (ModeFits here.scope (record { line = NestedLine label line operator operand inside close; before = kind } ∷ earlier) following) store (nested_effect here line operator operand close (means here inside) mode store)
parenthesis_goes here store fits calls earlier label line operator operand inside close following kind (Running result) simple a c =
    let inner = kind_following here.scope inside (opening_kind here.scope operand) in
    let parts = three_parts (opening_checks here.scope line operator operand kind) (inside_rules here.scope inside (opening_kind here.scope operand)) (closing_checks close kind inner) c in
    goes_weaker (InsideMode (kind_after_operator operator kind)) (ModeFits here.scope (record { line = NestedLine label line operator operand inside close; before = kind } ∷ earlier) following) store (nested_effect here line operator operand close (means here inside) (Running result) store)
    (onward) (nested_goes here store fits line close operator operand (means here inside) inner kind result a parts.0 parts.2 (λ start ag. inside_ends here calls inside (opening_kind here.scope operand) start store fits simple parts.1 ag))
  where
    onward : (mode : Mode) → InsideMode (kind_after_operator operator kind) mode → ModeFits here.scope (record { line = NestedLine label line operator operand inside close; before = kind } ∷ earlier) following mode
    onward (Running r) m = hands_on here.scope earlier (NestedLine label line operator operand inside close) following kind r refl m
    onward (Seeking name r) m = absurd m
    onward (Returned r) m = absurd m
parenthesis_goes here store fits calls earlier label line operator operand inside close following kind (Seeking name result) simple a c = (passes_over here.scope earlier (NestedLine label line operator operand inside close) following kind name result a, SameSlots-refl store)
parenthesis_goes here store fits calls earlier label line operator operand inside close following kind (Returned result) simple a c = (tt, SameSlots-refl store)

-- past a label alone
pub label_passed : (scope : Scope) (earlier : List Known) (word : Word) (following : List BodyLine) (kind : Option Kind) (mode : Mode) → ArrivedFits scope earlier (AloneLine word) following kind mode → ModeFits scope (record { line = AloneLine word; before = kind } ∷ earlier) following mode
label_passed scope earlier word following kind (Running result) a = hands_on scope earlier (AloneLine word) following kind result refl a
label_passed scope earlier word following kind (Seeking name result) a = passes_over scope earlier (AloneLine word) following kind name result a
label_passed scope earlier word following kind (Returned result) a = tt

-- the lines left end well
pub lines_end : (here : Context) → CallsEndWell here.scope.before here.calls → (lines : Lines) (before : List BodyLine) (mode : Mode) (store : Store) → FitsScope store here.instance here.scope → NestsSimply lines → Clean (flat_map (rules_at_position here.scope) (positions_after before (lines_of lines))) → ModeFits here.scope (known_kinds here.scope before) (lines_of lines) mode → EndsWell Any store (means here lines mode store)
lines_end here calls End before (Running result) store fits simple c m = (tt, SameSlots-refl store)
lines_end here calls End before (Returned result) store fits simple c m = (tt, SameSlots-refl store)
lines_end here calls End before (Seeking label result) store fits simple c m = absurd (let e = m.3 in cc)
lines_end here calls (Alone word rest) before mode store fits simple c m =
    let line : BodyLine = AloneLine word in
    let position : Position BodyLine = record { before = before; item = line; following = lines_of rest } in
    lines_end here calls rest (line ∷ before) (arriving (Some word) mode) store fits simple
    (clean_second (rules_at_position here.scope position) (flat_map (rules_at_position here.scope) (positions_after (line ∷ before) (lines_of rest))) c)
    (label_passed here.scope (known_kinds here.scope before) word (lines_of rest) (kind_at here.scope before line) (arriving (Some word) mode) (arrives here.scope before line (lines_of rest) mode m))
lines_end here calls (PlainLines label number step rest) before mode store fits simple c m =
    let line : BodyLine = PlainLine label number step in
    let position : Position BodyLine = record { before = before; item = line; following = lines_of rest } in
    let rules = clean_second (label_rules before label) (step_rules here.scope number step (lines_of rest) (kind_at here.scope before line)) (clean_first (rules_at_position here.scope position) (flat_map (rules_at_position here.scope) (positions_after (line ∷ before) (lines_of rest))) c) in
    continued_ends (ModeFits here.scope (known_kinds here.scope (line ∷ before)) (lines_of rest)) Any store (line_effect here number step (arriving label mode) store) (means here rest)
    (line_goes here store fits calls (known_kinds here.scope before) label number step (lines_of rest) (kind_at here.scope before line) (arriving label mode) (arrives here.scope before line (lines_of rest) mode m) rules)
    (λ next new fitting same. lines_end here calls rest (line ∷ before) next new (FitsScope-same store new here.instance here.scope same fits) simple (clean_second (rules_at_position here.scope position) (flat_map (rules_at_position here.scope) (positions_after (line ∷ before) (lines_of rest))) c) fitting)
lines_end here calls (Nested label number operator operand inside close rest) before mode store fits simple c m =
    let line : BodyLine = NestedLine label number operator operand inside close in
    let position : Position BodyLine = record { before = before; item = line; following = lines_of rest } in
    let rules = clean_second (label_rules before label) (ParenthesisRules here.scope number operator operand inside close (kind_at here.scope before line)) (clean_first (rules_at_position here.scope position) (flat_map (rules_at_position here.scope) (positions_after (line ∷ before) (lines_of rest))) c) in
    continued_ends (ModeFits here.scope (known_kinds here.scope (line ∷ before)) (lines_of rest)) Any store (nested_effect here number operator operand close (means here inside) (arriving label mode) store) (means here rest)
    (parenthesis_goes here store fits calls (known_kinds here.scope before) label number operator operand inside close (lines_of rest) (kind_at here.scope before line) (arriving label mode) simple.0 (arrives here.scope before line (lines_of rest) mode m) rules)
    (λ next new fitting same. lines_end here calls rest (line ∷ before) next new (FitsScope-same store new here.instance here.scope same fits) simple.1 (clean_second (rules_at_position here.scope position) (flat_map (rules_at_position here.scope) (positions_after (line ∷ before) (lines_of rest))) c) fitting)

-- a whole body ends well
pub whole_body_ends : (scope : Scope) (names : List Name) (now : ℕ) (calls : Calls) (store : Store) → FitsScope store names scope → CallsEndWell scope.before calls → NestsSimply scope.unit.body → Clean (body_rules scope) → EndsWell Any store (body_means scope names now calls store)
whole_body_ends scope names now calls store fits ends simple c = lines_end (record { scope = scope; instance = names; now = now; calls = calls }) ends scope.unit.body [] (Running None) store fits simple c (None, refl, tt)

-- a unit with those before it
abbrev pub Found : Type 0
Found = ProgramUnit × List ProgramUnit

pub block_is : (this that : Found) (b : Bool) → (if b then Some this else None) ≡ Some that → that ≡ this
block_is this that true e = Some-same this that e
block_is this that false e = cc

-- by whether it is the last unit that is called
pub called_step : (u : ProgramUnit) (before : List ProgramUnit) (now : ℕ) → Clean (body_rules (record { before = before; unit = u })) → NestsSimply u.body → CallsEndWell before (called before now) → (name : Name) (names : List Name) (store : Store) (that : Found) → FitsScope store names (record { before = that.1; unit = that.0 }) → (b : Bool) → (let this : Found = (u, before) in (elim b as (λ x. Option Found) [ true ↦ (if is_block u then Some this else None) | false ↦ block_named before name ]) ≡ Some that) → EndsWell Any store (elim b [ true ↦ body_means (record { before = before; unit = u }) names now (called before now) store | false ↦ called before now name names store ])
called_step u before now clean simple rest name names store that fits true e =
    let this : Found = (u, before) in
    let is = block_is this that (is_block u) e in
    whole_body_ends (record { before = before; unit = u }) names now (called before now) store (subst (λ (p : Found). FitsScope store names (record { before = p.1; unit = p.0 })) is fits) rest simple clean
called_step u before now clean simple rest name names store that fits false e = rest name that.0 that.1 e names store fits

-- calls end well, through all depths
pub called_ends : (before : List ProgramUnit) (now : ℕ) → AreClean before → CallsEndWell before (called before now)
called_ends [] now clean = λ name unit earlier e names store fits. cc
called_ends (u ∷ before) now clean = λ name unit earlier e names store fits.
    let that : Found = (unit, earlier) in
    called_step u before now clean.0 clean.1 (called_ends before now clean.2) name names store that fits (same_name u.name.name name) e

-- a program ends well, from each store that fits its frame
pub program_ends : (before : List ProgramUnit) (program : ProgramUnit) (now : ℕ) (store : Store) → AreClean (program ∷ before) → FitsScope store [] (record { before = before; unit = program }) → EndsWell Any store (program_means before program now store)
program_ends before program now store clean fits = whole_body_ends (record { before = before; unit = program }) [] now (called before now) store fits (called_ends before now clean.2) clean.1 clean.0

-- the first store fits the frame: the names' places follow the direct variables
pub after_direct : (vs : List DirectVariable) (rest : List (Location × Content)) (path : List Name) → store_of (map (λ v. (Direct v, zero_of (kind_of_direct v))) vs ++ rest) (Path path) ≡ store_of rest (Path path)
after_direct [] rest path = refl
after_direct (v ∷ vs) rest path = after_direct vs rest path

pub named_content : (places : List (List Name × Content)) (path : List Name) → store_of (map (λ p. (Path p.0, p.1)) places) (Path path) ≡ content_at places path
named_content [] path = refl
named_content (p ∷ places) path = ap (λ (c : Option Content). if same_path p.0 path then Some p.1 else c) (named_content places path)

pub zero-slot : (kind : Kind) → slot_of (zero_of kind) ≡ slot_of_kind kind
zero-slot KindBool = refl
zero-slot KindDint = refl
zero-slot KindTime = refl

-- and each direct variable holds its kind
pub direct_content : (vs : List DirectVariable) (rest : List (Location × Content)) (variable : DirectVariable) → list_any (same_direct variable) vs ≡ true → option_map slot_of (store_of (map (λ v. (Direct v, zero_of (kind_of_direct v))) vs ++ rest) (Direct variable)) ≡ Some (slot_of_kind (kind_of_direct variable))
direct_content [] rest variable e = cc
direct_content (v ∷ vs) rest variable e =
    let later : (b : Bool) → same_direct variable v ≡ b → same_direct v variable ≡ false → (b || list_any (same_direct variable) vs) ≡ true → list_any (same_direct variable) vs ≡ true =
    elim [
      | true ↦ λ same differs f. absurd (let is = same_direct-sound variable v same in let back = subst (λ (w : DirectVariable). same_direct w variable ≡ false) (sym is) differs in let self = same_direct-refl variable in cc)
      | false ↦ λ same differs f. f
    ]
    in
    let step : (b : Bool) → same_direct v variable ≡ b → option_map slot_of (if b then Some (zero_of (kind_of_direct v)) else store_of (map (λ w. (Direct w, zero_of (kind_of_direct w))) vs ++ rest) (Direct variable)) ≡ Some (slot_of_kind (kind_of_direct variable)) =
    elim [
      | true ↦ λ same. ap Some (zero-slot (kind_of_direct v)) ∙ ap (λ (w : DirectVariable). Some (slot_of_kind (kind_of_direct w))) (same_direct-sound v variable same)
      | false ↦ λ differs. direct_content vs rest variable (later (same_direct variable v) refl differs e)
    ]
    in
    step (same_direct v variable) refl

pub first_store_fits : (before : List ProgramUnit) (program : ProgramUnit) → FitsScope (initial_store before program) [] (record { before = before; unit = program })
first_store_fits before program = record {
  own = λ path content e. ap (λ (c : Option Content). option_map slot_of c) (after_direct direct_variables (map (λ p. (Path p.0, p.1)) (unit_places before program)) path ∙ (named_content (unit_places before program) path ∙ e));
  direct = λ variable e. direct_content direct_variables (map (λ p. (Path p.0, p.1)) (unit_places before program)) variable e;
}

-- contents of the kinds that a store has keep its kinds
abbrev pub EntriesTyped : Store → List (Location × Content) → Type 0
EntriesTyped store [] = Unit {0}
EntriesTyped store (entry ∷ entries) = (slot_at store entry.0 ≡ Some (slot_of entry.1)) × EntriesTyped store entries

pub EntriesTyped-append : (store : Store) (xs ys : List (Location × Content)) → EntriesTyped store xs → EntriesTyped store ys → EntriesTyped store (xs ++ ys)
EntriesTyped-append store [] ys t u = u
EntriesTyped-append store (x ∷ xs) ys t u = (t.0, EntriesTyped-append store xs ys t.1 u)

pub entries_hold : (store : Store) (entries : List (Location × Content)) → EntriesTyped store entries → (place : Location) → MatchOption (store_of entries place) (Unit {0}) (λ c. slot_at store place ≡ Some (slot_of c))
entries_hold store [] t place = tt
entries_hold store (entry ∷ entries) t place =
    let step : (b : Bool) → same_place entry.0 place ≡ b → MatchOption (if b then Some entry.1 else store_of entries place) (Unit {0}) (λ c. slot_at store place ≡ Some (slot_of c)) =
    elim [ true ↦ λ same. ap (slot_at store) (sym (same_place-sound entry.0 place same)) ∙ t.0 | false ↦ λ differs. entries_hold store entries t.1 place ]
    in
    step (same_place entry.0 place) refl

pub overlaid-keeps : (store : Store) (entries : List (Location × Content)) → EntriesTyped store entries → SameSlots store (overlaid entries store)
overlaid-keeps store entries t = λ place. go place (store_of entries place) (entries_hold store entries t place)
  where
    go : (place : Location) (found : Option Content) → MatchOption found (Unit {0}) (λ c. slot_at store place ≡ Some (slot_of c)) → option_map slot_of (elim found as (λ x. Option Content) [ Some content ↦ Some content | None ↦ store place ]) ≡ slot_at store place
    go place None h = refl
    go place (Some content) h = sym h

-- the image puts each input's kind
pub bits_typed : (store : Store) → HoldsDirect store → (as_bit : ℕ → DirectVariable) (value : ℕ → Bool) → ((i : ℕ) → kind_of_direct (as_bit i) ≡ KindBool) → (ns : List ℕ) → list_all (λ i. list_any (same_direct (as_bit i)) direct_variables) ns ≡ true → EntriesTyped store (map (λ i. (Direct (as_bit i), Plain (Truth (value i)))) ns)
bits_typed store h as_bit value k [] e = tt
bits_typed store h as_bit value k (n ∷ ns) e =
    let both = both-true (list_any (same_direct (as_bit n)) direct_variables) (list_all (λ (i : ℕ). list_any (same_direct (as_bit i)) direct_variables) ns) e in
    (h (as_bit n) both.0 ∙ ap (λ (kind : Kind). Some (slot_of_kind kind)) (k n), bits_typed store h as_bit value k ns both.1)

pub weights_typed : (store : Store) → HoldsDirect store → (value : ℕ → Rattle.std.specs.Prelude.ℤ) (ns : List ℕ) → list_all (λ i. list_any (same_direct (Weight i)) direct_variables) ns ≡ true → EntriesTyped store (map (λ i. (Direct (Weight i), Plain (Dint (value i)))) ns)
weights_typed store h value [] e = tt
weights_typed store h value (n ∷ ns) e =
    let both = both-true (list_any (same_direct (Weight n)) direct_variables) (list_all (λ (i : ℕ). list_any (same_direct (Weight i)) direct_variables) ns) e in
    (h (Weight n) both.0, weights_typed store h value ns both.1)

pub image-keeps : (store : Store) → HoldsDirect store → (image : Image) → SameSlots store (with_image image store)
image-keeps store h image =
    let input_contents : List (Location × Content) = map (λ i. (Direct (InputBit i), Plain (Truth (is_bit_set image.inputs i)))) (numbers_below 16) in
    let status_contents : List (Location × Content) = map (λ i. (Direct (StatusBit i), Plain (Truth (is_bit_set image.status i)))) (numbers_below 6) in
    let weight_contents : List (Location × Content) = map (λ i. (Direct (Weight i), Plain (Dint (slice_index_or image.weights i (pos 0))))) (numbers_below 3) in
    let inputs = bits_typed store h InputBit (is_bit_set image.inputs) (λ i. refl) (numbers_below 16) refl in
    let status = bits_typed store h StatusBit (is_bit_set image.status) (λ i. refl) (numbers_below 6) refl in
    let weights = weights_typed store h (λ i. slice_index_or image.weights i (pos 0)) (numbers_below 3) refl in
    overlaid-keeps store (image_contents image) (EntriesTyped-append store (input_contents ++ status_contents) weight_contents (EntriesTyped-append store input_contents status_contents inputs status) weights)

-- an outcome that keeps the kinds of a store keeps those of one alike
pub ends_alike : (old new : Store) (outcome : Outcome) → SameSlots old new → EndsWell Any new outcome → EndsWell Any old outcome
ends_alike old new (Done result store trace) same ends = (tt, SameSlots-trans old new store same ends.1)
ends_alike old new (Stuck reason) same ends = ends

-- a scan of clean units ends well
pub scan_ends : (before : List ProgramUnit) (program : ProgramUnit) → AreClean (program ∷ before) → (store : Store) → SameSlots (initial_store before program) store → (image : Image) (now : ℕ) → EndsWell Any (initial_store before program) (program_means before program now (with_image image store))
scan_ends before program clean store same image now =
    let first = initial_store before program in
    let scope : Scope = record { before = before; unit = program } in
    let fits = FitsScope-same first store [] scope same (first_store_fits before program) in
    let kept = image-keeps store fits.direct image in
    let alike = SameSlots-trans first store (with_image image store) same kept in
    ends_alike first (with_image image store) (program_means before program now (with_image image store)) alike
    (program_ends before program now (with_image image store) clean (FitsScope-same store (with_image image store) [] scope kept fits))
