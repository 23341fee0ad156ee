-- The names of a list by their numbers, and where each is.
use Rattle.wc_model.proofs.Common.{◌≡◌, ℕ, suc, ◌+◌, ◌<◌, ◌≤◌, List, [], ◌∷◌, ◌++◌, Bool, true, false, cond, length, map, take, drop, Option, Some, None, refl, sym, ap, ◌∙◌, arith, length-append, Vec, Global, flat_map-append, get_or_from_slice_get, slice_get-map, slice_get_within, flat_map, onto_first, position_from}
use Rattle.std.proofs.lemmas.List.{append_assoc, flat_map_more, take-append-drop, take_all, take_more}
use Rattle.std.specs.Prelude.{◌==◌, ◌||◌, ℤ, get_or, is_some, not, option_and_then, option_map, slice_get}
use Rattle.wc_model.specs.Language.Tree.{Text}
use Rattle.wc_names.proofs.Lists.{from_index, got_some}
use Rattle.wc_text_variables.proofs.Readings.{known}
use Rattle.wc_text_variables.specs.Names.{variable_named, named_location}
use Rattle.wc_view_watch.specs.{is_unknown, with_commas, names_in, AreLookedUp}
use Rattle.wc_text_variables.specs.declared.variables.NamedVariable.{NamedVariable}
use Rattle.wc_view_watch.specs.declared.watched_names.WatchedNames.{WatchedNames}

-- what `get` answers, as a look-up in the same list
pub got_there : {X : Type 0} {xs ys : List X} (index : ℕ) (x : X) → xs ≡ ys → index < length xs → x ≡ get_or xs index x → slice_get ys index ≡ Some x
got_there {X} {xs} index x same below is = ap (λ zs. slice_get zs index) (sym same) ∙ got_some xs index x below is

-- what a list has of each item of another one, by its number
pub at_index : {X Y : Type 0} (f : X → Y) {all : List Y} (items : List X) (index : ℕ) (x : X) → all ≡ map f items → slice_get items index ≡ Some x → slice_get all index ≡ Some (f x)
at_index f items index x are there = ap (λ xs. slice_get xs index) are ∙ slice_get-map f items index ∙ ap (option_map f) there

pub same_meaning : (f : List ℕ → Option NamedVariable) (all : List (Option NamedVariable)) (names : List (List ℕ)) (index : ℕ) (name : List ℕ) (w : Option NamedVariable) → all ≡ map f names
    → slice_get names index ≡ Some name → slice_get all index ≡ Some w → f name ≡ w
same_meaning f all names index name w are there found = let e : Some (f name) ≡ Some w = sym (at_index f names index name are there) ∙ found in cc (e)

-- so of what is looked up by the number of a name
pub named_at : (f : List ℕ → Option NamedVariable) (g : List ℕ → Option ℤ) (all : List (Option NamedVariable)) (names : List (List ℕ)) (index : ℕ) (w : Option NamedVariable) → all ≡ map f names
    → slice_get all index ≡ Some w → (name : List ℕ) × (f name ≡ w) × (get_or (map g names) index None ≡ g name)
named_at f g all names index w are found = by (slice_get names index) refl
  where
    by : (o : Option (List ℕ)) → slice_get names index ≡ o → (name : List ℕ) × (f name ≡ w) × (get_or (map g names) index None ≡ g name)
    by None there =
        let none : Some w ≡ None = sym found ∙ ap (λ xs. slice_get xs index) are ∙ slice_get-map f names index ∙ ap (option_map f) there in
        absurd (cc (none))
    by (Some name) there = (name, same_meaning f all names index name w are there found, get_or_from_slice_get (map g names) index (g name) None (at_index g names index name refl there))

-- the names up to one are those before it, and it
next_name : (names : List (List ℕ)) (index : ℕ) (name : List ℕ) → slice_get names index ≡ Some name → take (index + 1) names ≡ take index names ++ name ∷ []
next_name names index name there =
    take_more names index name (slice_get_within names index name there) ∙ ap (λ n. take index names ++ n ∷ []) (get_or_from_slice_get names index name name there)

-- what is put of each name, with one name more
pub one_name_more : (g : List ℕ → List ℕ) (names : List (List ℕ)) (index : ℕ) (name old line new : List ℕ) → slice_get names index ≡ Some name
    → line ≡ old ++ flat_map g (take index names) → new ≡ line ++ g name → new ≡ old ++ flat_map g (take (index + 1) names)
one_name_more g names index name old line new there so_far put =
    put ∙ ap (λ l. l ++ g name) so_far ∙ flat_map_more g old (take index names) name ∙ ap (λ ns. old ++ flat_map g ns) (sym (next_name names index name there))

-- and of all names
pub all_names : (g : List ℕ → List ℕ) (names : List (List ℕ)) (index : ℕ) (old line : List ℕ) → length names ≤ index → line ≡ old ++ flat_map g (take index names) → line ≡ old ++ flat_map g names
all_names g names index old line past so_far = so_far ∙ ap (λ t. old ++ flat_map g t) (take_all index names past)

-- the parts of a line
pub four_chunks : (old first second third new a b c d : List ℕ) → first ≡ old ++ a → second ≡ first ++ b → third ≡ second ++ c → new ≡ third ++ d → new ≡ old ++ (a ++ (b ++ (c ++ d)))
four_chunks old first second third new a b c d one two three four =
    four ∙ ap (λ l. l ++ d) (three ∙ ap (λ l. l ++ c) (two ∙ ap (λ l. l ++ b) one))
    ∙ append_assoc ((old ++ a) ++ b) c d ∙ append_assoc (old ++ a) b (c ++ d) ∙ append_assoc old a (b ++ (c ++ d))

-- the names of a list, each with a comma, have one byte more than the list
onto_longer : (x : ℕ) (parts : List (List ℕ)) (n : ℕ) → length (with_commas parts) ≡ suc n → length (with_commas (onto_first x parts)) ≡ suc (suc n)
onto_longer x [] n e = absurd (cc (e))
onto_longer x (part ∷ parts) n e = ap suc e

whole_length : (list : List ℕ) → length (with_commas (names_in list)) ≡ suc (length list)
whole_length [] = refl
whole_length (x ∷ list) = by (x == 44) (whole_length list)
  where
    by : (b : Bool) → length (with_commas (names_in list)) ≡ suc (length list) → length (with_commas (cond b ([] ∷ names_in list) (onto_first x (names_in list)))) ≡ suc (suc (length list))
    by true rest = ap suc rest
    by false rest = onto_longer x (names_in list) (length list) rest

pub start_within : (list : List ℕ) (index : ℕ) → length (with_commas (take index (names_in list))) ≤ suc (length list)
start_within list index =
    let names : List (List ℕ) = names_in list in
    omega (
      arith,
      length-append (with_commas (take index names)) (with_commas (drop index names)),
      ap length (flat_map-append (λ (name : List ℕ). name ++ 44 ∷ []) (take index names) (drop index names)),
      ap (λ all. length (with_commas all)) (take-append-drop index names),
      whole_length list,
    )

-- a name more, with its comma
pub start_more : (list : List ℕ) (index : ℕ) (name : List ℕ) → slice_get (names_in list) index ≡ Some name
    → length (with_commas (take (index + 1) (names_in list))) ≡ length (with_commas (take index (names_in list))) + length name + 1
start_more list index name there =
    let names : List (List ℕ) = names_in list in
    let whole : with_commas (take (index + 1) names) ≡ with_commas (take index names) ++ ((name ++ 44 ∷ []) ++ []) =
    ap with_commas (next_name names index name there) ∙ flat_map-append (λ (one : List ℕ). one ++ 44 ∷ []) (take index names) (name ∷ []) in
    omega (arith, ap length whole, length-append (with_commas (take index names)) ((name ++ 44 ∷ []) ++ []), length-append (name ++ 44 ∷ []) [], length-append name (44 ∷ []))

-- whether a name is known, by what was looked up
pub is_known_at : (names : WatchedNames) (list : List ℕ) (text : Text) (next : Option Text) (index : ℕ) (name : List ℕ) → AreLookedUp names list text next
    → slice_get (names_in list) index ≡ Some name
    → not (is_some (option_and_then (λ found. found) (slice_get names.watched.items index))
    || is_some (option_and_then (λ all. option_and_then (λ found. found) (slice_get all.items index)) names.next)) ≡ is_unknown text next name
is_known_at names list text next index name looked there =
    (λ i. not (here text names.watched.items looked.here i || ahead names.next next looked.ahead i))
  where
    here : (text : Text) (all : List (Option NamedVariable)) → all ≡ map (variable_named text) (names_in list)
        → is_some (option_and_then (λ (found : Option NamedVariable). found) (slice_get all index)) ≡ is_some (named_location text name)
    here text all are =
        ap (λ (o : Option (Option NamedVariable)). is_some (option_and_then (λ found. found) o)) (at_index (variable_named text) (names_in list) index name are there) ∙ known text name

    ahead : (all : Option (Vec (Option NamedVariable) Global)) (other : Option Text) → option_map (λ found. found.items) all ≡ option_map (λ one. map (variable_named one) (names_in list)) other
        → is_some (option_and_then (λ found. option_and_then (λ one. one) (slice_get found.items index)) all) ≡ is_some (option_and_then (λ text. named_location text name) other)
    ahead None None e = refl
    ahead None (Some other) e = absurd (cc (e))
    ahead (Some all) None e = absurd (cc (e))
    ahead (Some all) (Some other) e = let are : all.items ≡ map (variable_named other) (names_in list) = cc (e) in here other all.items are

-- the first unknown name among those from this one on: it, or one of those after it
pub found_from : (p : List ℕ → Bool) (names : List (List ℕ)) (index : ℕ) (name : List ℕ) (here : Bool) → slice_get names index ≡ Some name → p name ≡ here
    → position_from p index (drop index names) ≡ cond here (Some index) (position_from p (index + 1) (drop (index + 1) names))
found_from p names index name here there is =
    ap (position_from p index) (from_index names index name (slice_get_within names index name there) (sym (get_or_from_slice_get names index name name there)))
    ∙ ap (λ b. cond b (Some index) (position_from p (index + 1) (drop (index + 1) names))) is
