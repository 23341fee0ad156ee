-- When what is seen of flat code is what is seen of the tree: the relations, and one line.
use Rattle.std.proofs.Common.{◌≡◌, ℕ, suc, ◌+◌, true, List, [], ◌∷◌, ◌++◌, map, length, Option, Some, ℤ, refl, ap, ◌∙◌, arith}
use Rattle.wc_text_flat.proofs.Sides.{Sides, flat, IsBased, AreAlike, state_of, LineFollows, IsCourse, result_in}
use Rattle.wc_text_flat.specs.{AreContents, State, Flow, Skips, Ended, LineResult, Here, line_runs}
use Rattle.wc_model.specs.Definitions.{block_named, Outcome, Done, Stuck, Running, Seeking, Returned, Effect, Goes, Fails, Name, Location, Content, Store, Lines, ProgramUnit}
use Rattle.wc_model.specs.declared.code.Code.{Code}
use Rattle.wc_model.specs.declared.code.Code.TheVariants.{LoadNumber, LoadPlace, Store as StoreLine, ApplyNumber, ApplyPlace, Not, Open, OpenNumber, OpenPlace, Close, Jump, Return, Call, ArgumentNumber, ArgumentPlace, Standard, Body}
use Rattle.wc_text_flat.specs.FlatSeen.{FlatSeen, FlatSeenCalls, deeper, number_written, seen_moved, flat_seen_line, flat_seen_from, flat_seen, is_body_line, AreSeenAs}
use Rattle.wc_text_flat.specs.Seen.{Seen, SeenCalls, seen_called, seen_effect}

-- if there is an outcome, what is seen on the two sides is the same
abbrev pub OutcomeSeen : List (Location × Content) → Outcome → List Seen → List FlatSeen → Type 0
OutcomeSeen frame (Done result store trace) seen flats = AreSeenAs frame seen flats
OutcomeSeen frame (Stuck reason) seen flats = Unit {0}

-- the sides are alike, and so is what is seen of calls
pub record AreSeenAlike (w : Sides) (calls : SeenCalls) (flats : FlatSeenCalls) : Type 0 where
  pub alike : AreAlike w
  pub seen_follow : (name : Name) (unit : ProgramUnit) (earlier : List ProgramUnit) → block_named w.here.scope.before name ≡ Some (unit, earlier) →
      (names : List Name) (base : ℕ) → IsBased w.frame (record { before = earlier; unit = unit }) names base →
      (store : Store) (numbers : List ℤ) → AreContents w.frame store numbers → OutcomeSeen w.frame (w.here.calls name names store) (calls name names store) (flats (length earlier) base numbers)

-- what is seen of flat lines is what is seen of an effect that stays with the next line
abbrev pub OnwardSeen : Sides → FlatSeenCalls → List ℕ → List Code → List ℤ → State → Effect → List Seen → Type 0
OnwardSeen w flats sources own put_by state (Goes (Running result) store items) seen =
    (numbers : List ℤ) × AreContents w.frame store numbers × ((fs : List FlatSeen) × AreSeenAs w.frame seen fs
    × ((more : List ℕ) (others : List Code) → flat_seen (flat w) flats (sources ++ more) (own ++ others) (Skips 0) state ≡ fs ++ flat_seen (flat w) flats more others (Skips 0) (state_of result put_by numbers)))
OnwardSeen w flats sources own put_by state (Goes (Seeking label result) store items) seen = ⊥
OnwardSeen w flats sources own put_by state (Goes (Returned result) store items) seen = ⊥
OnwardSeen w flats sources own put_by state (Fails reason) seen = Unit {0}

-- what is seen of flat lines is what is seen of an effect that may lead elsewhere, from a course on, if these lines follow
abbrev pub EffectSeen : Sides → FlatSeenCalls → Lines → List ℕ → List Code → List ℤ → Flow → State → Effect → List Seen → Type 0
EffectSeen w flats rest sources own put_by course state (Goes mode store items) seen =
    (next : Flow) × (numbers : List ℤ) × AreContents w.frame store numbers × IsCourse rest mode next × ((fs : List FlatSeen) × AreSeenAs w.frame seen fs
    × ((more : List ℕ) (others : List Code) → flat_seen (flat w) flats (sources ++ more) (own ++ others) course state ≡ fs ++ flat_seen (flat w) flats more others next (state_of (result_in mode) put_by numbers)))
EffectSeen w flats rest sources own put_by course state (Fails reason) seen = Unit {0}

pub onward_effect_seen : (w : Sides) (flats : FlatSeenCalls) (rest : Lines) (sources : List ℕ) (own : List Code) (put_by : List ℤ) (state : State) (effect : Effect) (seen : List Seen) → OnwardSeen w flats sources own put_by state effect seen → EffectSeen w flats rest sources own put_by (Skips 0) state effect seen
onward_effect_seen w flats rest sources own put_by state (Goes (Running result) store items) seen h = (Skips 0, h.0, h.1, refl, h.2)
onward_effect_seen w flats rest sources own put_by state (Goes (Seeking label result) store items) seen h = absurd h
onward_effect_seen w flats rest sources own put_by state (Goes (Returned result) store items) seen h = absurd h
onward_effect_seen w flats rest sources own put_by state (Fails reason) seen h = tt

-- one after another
pub seen_append : (frame : List (Location × Content)) (a b : List Seen) (x y : List FlatSeen) → AreSeenAs frame a x → AreSeenAs frame b y → AreSeenAs frame (a ++ b) (x ++ y)
seen_append frame [] b [] y h k = k
seen_append frame [] b (f ∷ x) y h k = absurd h
seen_append frame (s ∷ a) b [] y h k = absurd h
seen_append frame (s ∷ a) b (f ∷ x) y h k = (h.0, seen_append frame a b x y h.1 k)

-- one call deeper
pub seen_deeper : (frame : List (Location × Content)) (a : List Seen) (x : List FlatSeen) → AreSeenAs frame a x → AreSeenAs frame (map seen_called a) (map deeper x)
seen_deeper frame [] [] h = tt
seen_deeper frame [] (f ∷ x) h = absurd h
seen_deeper frame (s ∷ a) [] h = absurd h
seen_deeper frame (s ∷ a) (f ∷ x) h = (record { item = h.0.item; result = h.0.result; contents = h.0.contents }, seen_deeper frame a x h.1)

-- a line that runs no other body
abbrev pub IsNoBody : Code → Type 0
IsNoBody (Body unit at) = ⊥
IsNoBody line = Unit {0}

pub line_is_seen : (here : Here) (flats : FlatSeenCalls) (source : ℕ) (state : State) (line : Code) → IsNoBody line → flat_seen_line here flats source state line ≡ seen_moved here source state line (line_runs here state line)
line_is_seen here flats source state (LoadNumber n) is = refl
line_is_seen here flats source state (LoadPlace negated place) is = refl
line_is_seen here flats source state (StoreLine storing place) is = refl
line_is_seen here flats source state (ApplyNumber operator n) is = refl
line_is_seen here flats source state (ApplyPlace operator place) is = refl
line_is_seen here flats source state Not is = refl
line_is_seen here flats source state Open is = refl
line_is_seen here flats source state (OpenNumber n) is = refl
line_is_seen here flats source state (OpenPlace place) is = refl
line_is_seen here flats source state (Close operator) is = refl
line_is_seen here flats source state (Jump condition skip) is = refl
line_is_seen here flats source state (Return condition) is = refl
line_is_seen here flats source state (Call condition skip) is = refl
line_is_seen here flats source state (ArgumentNumber target n) is = refl
line_is_seen here flats source state (ArgumentPlace place target) is = refl
line_is_seen here flats source state (Standard block at) is = refl
line_is_seen here flats source state (Body unit at) is = absurd is

-- a line of a body is no other body
pub body_line_runs_none : (line : Code) → is_body_line line ≡ true → IsNoBody line
body_line_runs_none (LoadNumber n) e = tt
body_line_runs_none (LoadPlace negated place) e = tt
body_line_runs_none (StoreLine storing place) e = tt
body_line_runs_none (ApplyNumber operator n) e = tt
body_line_runs_none (ApplyPlace operator place) e = tt
body_line_runs_none Not e = tt
body_line_runs_none Open e = tt
body_line_runs_none (OpenNumber n) e = tt
body_line_runs_none (OpenPlace place) e = tt
body_line_runs_none (Close operator) e = tt
body_line_runs_none (Jump condition skip) e = tt
body_line_runs_none (Return condition) e = tt
body_line_runs_none (Call condition skip) e = tt
body_line_runs_none (ArgumentNumber target n) e = tt
body_line_runs_none (ArgumentPlace place target) e = tt
body_line_runs_none (Standard block at) e = tt
body_line_runs_none (Body unit at) e = cc

-- what is seen of a line that does this
abbrev pub entry : Sides → ℕ → Code → State → State → FlatSeen
entry w source line before following = record { depth = 0; source = source; line = line; base = w.base; written = number_written (flat w) before line; result = following.result; numbers = following.numbers }

pub line_then : (w : Sides) (flats : FlatSeenCalls) (source : ℕ) (line : Code) (state : State) (moved : LineResult) → IsNoBody line → line_runs (flat w) state line ≡ Some moved → (more : List ℕ) (others : List Code) → flat_seen (flat w) flats (source ∷ more) (line ∷ others) (Skips 0) state ≡ entry w source line state moved.state ∷ flat_seen (flat w) flats more others moved.course moved.state
line_then w flats source line state moved is e more others =
    ap (λ (l : List FlatSeen). l ++ flat_seen_from (line_runs (flat w) state line) (flat_seen (flat w) flats more others)) (line_is_seen (flat w) flats source state line is)
    ∙ ap (λ (m : Option LineResult). seen_moved (flat w) source state line m ++ flat_seen_from m (flat_seen (flat w) flats more others)) e

-- one flat line that is a line of the body
pub line_seen : (w : Sides) (flats : FlatSeenCalls) (source : ℕ) (line : Code) (put_by : List ℤ) (state : State) (effect : Effect) → is_body_line line ≡ true → LineFollows w line put_by state effect → OnwardSeen w flats (source ∷ []) (line ∷ []) put_by state effect (seen_effect source effect)
line_seen w flats source line put_by state (Goes (Running result) store items) is h = (
  h.0,
  h.1,
  (
    entry w source line state (state_of result put_by h.0) ∷ [],
    (record { item = (refl, refl, is); result = refl; contents = h.1 }, tt),
    λ more others. line_then w flats source line state _ (body_line_runs_none line is) h.3 more others,
  ),
)
line_seen w flats source line put_by state (Goes (Seeking label result) store items) is h = absurd h
line_seen w flats source line put_by state (Goes (Returned result) store items) is h = absurd h
line_seen w flats source line put_by state (Fails reason) is h = tt

-- lines that are passed over are not seen
pub passed_unseen : (h : Here) (flats : FlatSeenCalls) (sources more : List ℕ) (own others : List Code) → length sources ≡ length own → (n : ℕ) (state : State) → flat_seen h flats (sources ++ more) (own ++ others) (Skips (length own + n)) state ≡ flat_seen h flats more others (Skips n) state
passed_unseen h flats [] more [] others e n state = ap (λ k. flat_seen h flats more others (Skips k) state) (let a : 0 + n ≡ n = omega arith in a)
passed_unseen h flats [] more (line ∷ own) others e n state = absurd (omega (arith, e))
passed_unseen h flats (source ∷ sources) more [] others e n state = absurd (omega (arith, e))
passed_unseen h flats (source ∷ sources) more (line ∷ own) others e n state =
    ap (λ k. flat_seen h flats (source ∷ sources ++ more) (line ∷ own ++ others) (Skips k) state) (let a : length (line ∷ own) + n ≡ suc (length own + n) = omega arith in a)
    ∙ passed_unseen h flats sources more own others (omega (arith, e)) n state

-- nor are those after the end of a body
pub ended_unseen : (h : Here) (flats : FlatSeenCalls) (sources : List ℕ) (code : List Code) (state : State) → flat_seen h flats sources code Ended state ≡ []
ended_unseen h flats sources [] state = refl
ended_unseen h flats sources (line ∷ code) state = refl
