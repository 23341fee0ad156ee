-- The places of an instance are one after another in its unit's frame, in the order of its block.
use Rattle.wc_model.proofs.Common.{◌≡◌, ℕ, ◌+◌, Bool, true, false, ◌&&◌, cond, List, [], ◌∷◌, ◌++◌, map, length, Option, Some, None, refl, sym, ap, ◌∙◌, arith, find, if◌then◌else◌, flat_map, position_from}
use Rattle.std.specs.Option.{option_map}
use Rattle.wc_text_flat.specs.Lowered.{size_of, places_before, first_of_all, first_place}
use Rattle.wc_model.specs.Definitions.{Variable, same_name, variables_of, variable_named, is_block, DirectVariable, direct_variables, kind_of_direct, frame_of, place_number, Name, Scope, Location, Direct, Path, Content, same_path, same_place, zero_of, below, unit_places, program_frame, ProgramUnit}
use Rattle.wc_laws_language.proofs.Places.{Some-same, places_of}
use Rattle.wc_laws_language.proofs.Tests.{same_name-refl}
use Rattle.wc_laws_language.proofs.FramePlaces.{one_number}

-- the number of a path among places
abbrev pub path_from : ℕ → List (List Name × Content) → List Name → Option ℕ
path_from start places path = position_from (λ p. same_path p.0 path) start places

-- a search that starts at another number
pub position_shifted : {X : Type 0} (test : X → Bool) (start more k : ℕ) (xs : List X) → position_from test start xs ≡ Some k → position_from test (more + start) xs ≡ Some (more + k)
position_shifted test start more k [] e = cc
position_shifted test start more k (x ∷ xs) e = step (test x) e (λ f. position_shifted test (start + 1) more k xs f)
  where
    step : (b : Bool) → cond b (Some start) (position_from test (start + 1) xs) ≡ Some k → (position_from test (start + 1) xs ≡ Some k → position_from test (more + (start + 1)) xs ≡ Some (more + k)) → cond b (Some (more + start)) (position_from test (more + start + 1) xs) ≡ Some (more + k)
    step true f onward = let same : start ≡ k = cc in ap (λ n. Some (more + n)) same
    step false f onward = ap (λ n. position_from test n xs) (let a : more + start + 1 ≡ more + (start + 1) = omega arith in a) ∙ onward f

-- a search that finds something finds it before whatever follows
pub position_before : {X : Type 0} (test : X → Bool) (start k : ℕ) (xs ys : List X) → position_from test start xs ≡ Some k → position_from test start (xs ++ ys) ≡ Some k
position_before test start k [] ys e = cc
position_before test start k (x ∷ xs) ys e = step (test x) e (λ f. position_before test (start + 1) k xs ys f)
  where
    step : (b : Bool) → cond b (Some start) (position_from test (start + 1) xs) ≡ Some k → (position_from test (start + 1) xs ≡ Some k → position_from test (start + 1) (xs ++ ys) ≡ Some k) → cond b (Some start) (position_from test (start + 1) (xs ++ ys)) ≡ Some k
    step true f onward = f
    step false f onward = onward f

-- below its own name a path has the number that it has without
pub path_below : (start : ℕ) (name : Name) (places : List (List Name × Content)) (path : List Name) → path_from start (below name places) (name ∷ path) ≡ path_from start places path
path_below start name [] path = refl
path_below start name (p ∷ places) path =
    let step : (b : Bool) → same_name name name ≡ true → cond (same_name name name && b) (Some start) (path_from (start + 1) (below name places) (name ∷ path)) ≡ cond b (Some start) (path_from (start + 1) places path) = λ b e. rw e (ap (cond b (Some start)) (path_below (start + 1) name places path)) in
    step (same_path p.0 path) (same_name-refl name)

-- the places below another name are passed over
pub path_alongside : (start : ℕ) (other : Name) (places rest : List (List Name × Content)) (name : Name) (path : List Name) → same_name other name ≡ false → path_from start (below other places ++ rest) (name ∷ path) ≡ path_from (length places + start) rest (name ∷ path)
path_alongside start other [] rest name path e = ap (λ n. path_from n rest (name ∷ path)) (let a : start ≡ 0 + start = omega arith in a)
path_alongside start other (p ∷ places) rest name path e =
    rw e (path_alongside (start + 1) other places rest name path e ∙ ap (λ n. path_from n rest (name ∷ path)) (let a : length places + (start + 1) ≡ length (p ∷ places) + start = omega arith in a))

-- the places of variables, one after another
abbrev pub all_places : List ProgramUnit → List Variable → List (List Name × Content)
all_places before vs = flat_map (λ (u : Variable). below u.name (places_of before u)) vs

-- a path below a variable's name lies as far after the places before as it does among the variable's own
pub variable_number : (before : List ProgramUnit) (vs : List Variable) (start : ℕ) (name : Name) (v : Variable) (first k : ℕ) (path : List Name) → find (λ u. same_name u.name name) vs ≡ Some v → places_before before vs name ≡ Some first → path_from 0 (places_of before v) path ≡ Some k → path_from start (all_places before vs) (name ∷ path) ≡ Some (start + (first + k))
variable_number before [] start name v first k path f p e = cc
variable_number before (u ∷ vs) start name v first k path f p e =
    step (same_name u.name name) refl f p (λ s n g q. variable_number before vs s name v n k path g q e)
  where
    here : same_name u.name name ≡ true → Some u ≡ Some v → Some 0 ≡ Some first → path_from start (below u.name (places_of before u) ++ all_places before vs) (name ∷ path) ≡ Some (start + (first + k))
    here same g q =
        let is : v ≡ u = Some-same u v g in
        let called : u.name ≡ name = Rattle.wc_laws_language.proofs.Tests.same_name-sound u.name name same in
        let zeroth : 0 ≡ first = one_number (Some 0) 0 first refl q in
        let own : path_from 0 (places_of before u) path ≡ Some k = ap (λ (w : Variable). path_from 0 (places_of before w) path) (sym is) ∙ e in
        let shifted : path_from (start + 0) (places_of before u) path ≡ Some (start + k) = position_shifted (λ (x : List Name × Content). same_path x.0 path) 0 start k (places_of before u) own in
        let placed : path_from start (places_of before u) path ≡ Some (start + k) = ap (λ n. path_from n (places_of before u) path) (let a : start ≡ start + 0 = omega arith in a) ∙ shifted in
        let below_it : path_from start (below u.name (places_of before u)) (u.name ∷ path) ≡ Some (start + k) = path_below start u.name (places_of before u) path ∙ placed in
        ap (λ (n : Name). path_from start (below u.name (places_of before u) ++ all_places before vs) (n ∷ path)) (sym called)
        ∙ (position_before (λ (x : List Name × Content). same_path x.0 (u.name ∷ path)) start (start + k) (below u.name (places_of before u)) (all_places before vs) below_it
        ∙ ap Some (let a : start + k ≡ start + (first + k) = omega (arith, zeroth) in a))

    further : same_name u.name name ≡ false → (n : Option ℕ) → places_before before vs name ≡ n → option_map (λ m. size_of before u + m) n ≡ Some first → ((s m : ℕ) → places_before before vs name ≡ Some m → path_from s (all_places before vs) (name ∷ path) ≡ Some (s + (m + k))) → path_from start (below u.name (places_of before u) ++ all_places before vs) (name ∷ path) ≡ Some (start + (first + k))
    further differs None is q onward = cc
    further differs (Some m) is q onward =
        let sum : size_of before u + m ≡ first = one_number (Some (size_of before u + m)) (size_of before u + m) first refl q in
        path_alongside start u.name (places_of before u) (all_places before vs) name path differs
        ∙ (onward (length (places_of before u) + start) m is ∙ ap Some (let a : length (places_of before u) + start + (m + k) ≡ start + (first + k) = omega (arith, sum) in a))

    step : (b : Bool) → same_name u.name name ≡ b → (if b then Some u else find (λ (w : Variable). same_name w.name name) vs) ≡ Some v → (if b then Some 0 else option_map (λ n. size_of before u + n) (places_before before vs name)) ≡ Some first → ((s m : ℕ) → find (λ (w : Variable). same_name w.name name) vs ≡ Some v → places_before before vs name ≡ Some m → path_from s (all_places before vs) (name ∷ path) ≡ Some (s + (m + k))) → path_from start (below u.name (places_of before u) ++ all_places before vs) (name ∷ path) ≡ Some (start + (first + k))
    step true same g q onward = here same g q
    step false differs g q onward = further differs (places_before before vs name) refl q (λ s m is. onward s m g is)

-- a frame's paths, and its direct variables
pub path_number : (places : List (List Name × Content)) (start : ℕ) (path : List Name) → position_from (λ (entry : Location × Content). same_place entry.0 (Path path)) start (map (λ p. (Path p.0, p.1)) places) ≡ path_from start places path
path_number [] start path = refl
path_number (p ∷ places) start path = ap (cond (same_path p.0 path) (Some start)) (path_number places (start + 1) path)

pub no_direct : (places : List (List Name × Content)) (start : ℕ) (v : DirectVariable) → position_from (λ (entry : Location × Content). same_place entry.0 (Direct v)) start (map (λ p. (Path p.0, p.1)) places) ≡ None
no_direct [] start v = refl
no_direct (p ∷ places) start v = no_direct places (start + 1) v

pub after_direct : (vs : List DirectVariable) (rest : List (Location × Content)) (start : ℕ) (path : List Name) → position_from (λ (entry : Location × Content). same_place entry.0 (Path path)) start (map (λ v. (Direct v, zero_of (kind_of_direct v))) vs ++ rest) ≡ position_from (λ (entry : Location × Content). same_place entry.0 (Path path)) (length vs + start) rest
after_direct [] rest start path = ap (λ n. position_from (λ (entry : Location × Content). same_place entry.0 (Path path)) n rest) (let a : start ≡ 0 + start = omega arith in a)
after_direct (v ∷ vs) rest start path =
    after_direct vs rest (start + 1) path
    ∙ ap (λ n. position_from (λ (entry : Location × Content). same_place entry.0 (Path path)) n rest) (let a : length vs + (start + 1) ≡ length (v ∷ vs) + start = omega arith in a)

-- the number of a path in a unit's frame
pub frame_path : (scope : Scope) (path : List Name) (k : ℕ) → ((start : ℕ) → path_from start (unit_places scope.before scope.unit) path ≡ Some (start + k)) → place_number (frame_of scope) (Path path) ≡ Some (first_of_all scope + k)
frame_path scope path k e = step (is_block scope.unit)
  where
    step : (b : Bool) → place_number (if b then map (λ p. (Path p.0, p.1)) (unit_places scope.before scope.unit) else program_frame scope.before scope.unit) (Path path) ≡ Some ((if b then 0 else length direct_variables) + k)
    step true = path_number (unit_places scope.before scope.unit) 0 path ∙ e 0
    step false =
        after_direct direct_variables (map (λ p. (Path p.0, p.1)) (unit_places scope.before scope.unit)) 0 path
        ∙ (path_number (unit_places scope.before scope.unit) (length direct_variables + 0) path
        ∙ (e (length direct_variables + 0) ∙ ap Some (let a : length direct_variables + 0 + k ≡ length direct_variables + k = omega arith in a)))

-- the number of a path of an instance in its unit's frame
pub instance_number : (scope : Scope) (name : Name) (v : Variable) → variable_named scope.unit name ≡ Some v → (at : ℕ) → first_place scope name ≡ Some at → (path : List Name) (k : ℕ) → path_from 0 (places_of scope.before v) path ≡ Some k → place_number (frame_of scope) (Path (name ∷ path)) ≡ Some (at + k)
instance_number scope name v found at first path k e = step (places_before scope.before (variables_of scope.unit) name) refl first
  where
    step : (o : Option ℕ) → places_before scope.before (variables_of scope.unit) name ≡ o → option_map (λ n. first_of_all scope + n) o ≡ Some at → place_number (frame_of scope) (Path (name ∷ path)) ≡ Some (at + k)
    step None is f = cc
    step (Some n) is f =
        let sum : first_of_all scope + n ≡ at = one_number (Some (first_of_all scope + n)) (first_of_all scope + n) at refl f in
        frame_path scope (name ∷ path) (n + k) (λ start. variable_number scope.before (variables_of scope.unit) start name v n k path found is e)
        ∙ ap Some (let a : first_of_all scope + (n + k) ≡ at + k = omega (arith, sum) in a)
