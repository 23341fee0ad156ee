-- What a look-up in a TOML table finds, as the rules for a plate see it.
use Rattle.wc_model.proofs.Common.{◌≡◌, ℕ, Bool, true, false, cond, ◌&&◌, ◌||◌, List, [], ◌∷◌, Result, Ok, Err, refl, sym, ap, subst, ◌∙◌, string_bytes, nat_cmp, Ordering, Less, Equal, Greater, is_eq, String, Global, is_eq-slice_cmp, list_all, list_any, keys_of, ok_or, IsErr, IsErrAnd, bytes_eq, match_ordering, slice_cmp, nat_list_eq_equiv}
use Rattle.std.specs.Prelude.{Option, Some, None, is_some, option_map, option_and_then, find, IfErr, IfOk}
use Rattle.toml.specs.Data.{Data, string, integer, float, boolean, datetime, array, table, Members, no_members, member, get_member, as_str, as_integer}
use Rattle.toml.specs.declared.value.Value.{Value}
use Rattle.toml.specs.View.{members_view}
use Rattle.wc_model.specs.Instrument.PlateTable.{Entry, plate_keys, entry_at, text_in, number_in, text_at, number_at, has_no_other_key}
use Rattle.wc_plate.specs.TomlTable.{entry_of, entries_of}

-- at one member, by the order of the keys
found_at : (o : Ordering) (b : Bool) (l : List ℕ) (d : Data) (rest : Option (List ℕ × Entry)) (more : Option Data) → is_eq o ≡ b →
    option_map (λ m. m.1) rest ≡ option_map entry_of more →
    option_map (λ m. m.1) (cond b (Some (l, entry_of d)) rest) ≡ option_map entry_of (match_ordering o more (Some d) more)
found_at Less true l d rest more e h = absurd (cc)
found_at Less false l d rest more e h = h
found_at Equal true l d rest more e h = refl
found_at Equal false l d rest more e h = absurd (cc)
found_at Greater true l d rest more e h = absurd (cc)
found_at Greater false l d rest more e h = h

-- the value of a key
pub entry_found : (key : List ℕ) (ms : Members) → entry_at (entries_of ms) key ≡ option_map entry_of (get_member key ms)
entry_found key no_members = refl
entry_found key (member l d ms) =
    found_at (slice_cmp nat_cmp key l) (bytes_eq l key) l d (find (λ m. bytes_eq m.0 key) (entries_of ms)) (get_member key ms)
    (is_eq-slice_cmp key l ∙ nat_list_eq_equiv.symm key l) (entry_found key ms)

-- a text is one to both
text_both : (d : Option Data) → option_and_then text_in (option_map entry_of d) ≡ option_and_then as_str d
text_both None = refl
text_both (Some (string s)) = refl
text_both (Some (integer z)) = refl
text_both (Some (float x)) = refl
text_both (Some (boolean b)) = refl
text_both (Some (datetime t)) = refl
text_both (Some (array ds)) = refl
text_both (Some (table ms)) = refl

-- a whole number is one to both
number_both : (d : Option Data) → option_and_then number_in (option_map entry_of d) ≡ option_and_then as_integer d
number_both None = refl
number_both (Some (string s)) = refl
number_both (Some (integer z)) = refl
number_both (Some (float x)) = refl
number_both (Some (boolean b)) = refl
number_both (Some (datetime t)) = refl
number_both (Some (array ds)) = refl
number_both (Some (table ms)) = refl

-- the text of a key
pub text_found : (key : List ℕ) (ms : Members) → text_at (entries_of ms) key ≡ option_and_then as_str (get_member key ms)
text_found key ms = ap (option_and_then text_in) (entry_found key ms) ∙ text_both (get_member key ms)

-- the whole number of a key
pub number_found : (key : List ℕ) (ms : Members) → number_at (entries_of ms) key ≡ option_and_then as_integer (get_member key ms)
number_found key ms = ap (option_and_then number_in) (entry_found key ms) ∙ number_both (get_member key ms)

-- the keys of a map are those of its table
pub same_keys : (entries : List (String Global × Value)) →
    list_all (λ key. list_any (bytes_eq (string_bytes key)) plate_keys) (keys_of entries) ≡ has_no_other_key (entries_of (members_view entries))
same_keys [] = refl
same_keys (x ∷ xs) = ap (λ b. list_any (bytes_eq (string_bytes x.0)) plate_keys && b) (same_keys xs)

-- a key that is in a map is in its table
pub keys_there : (entries : List (String Global × Value)) (wanted : List ℕ) → list_any (λ key. bytes_eq (string_bytes key) wanted) (keys_of entries) ≡ true
    → is_some (entry_at (entries_of (members_view entries)) wanted) ≡ true
keys_there [] wanted h = absurd (cc)
keys_there (x ∷ xs) wanted h = by_key (bytes_eq (string_bytes x.0) wanted) refl (keys_there xs wanted) h
  where
    by_key : (b : Bool) → bytes_eq (string_bytes x.0) wanted ≡ b
        → (list_any (λ key. bytes_eq (string_bytes key) wanted) (keys_of xs) ≡ true → is_some (entry_at (entries_of (members_view xs)) wanted) ≡ true)
        → (b || list_any (λ key. bytes_eq (string_bytes key) wanted) (keys_of xs)) ≡ true → is_some (entry_at (entries_of (members_view (x ∷ xs))) wanted) ≡ true
    by_key true e later h = rw e refl
    by_key false e later h = rw e (later h)

-- a key that is there has a value
pub there : (key : List ℕ) (ms : Members) (d : Data) → Some d ≡ get_member key ms → is_some (entry_at (entries_of ms) key) ≡ true
there key ms d found = ap is_some (entry_found key ms) ∙ ap (λ o. is_some (option_map entry_of o)) (sym found)

-- a key that is not there has no value
pub not_there : (key : List ℕ) (ms : Members) → None ≡ get_member key ms → entry_at (entries_of ms) key ≡ None
not_there key ms found = entry_found key ms ∙ ap (option_map entry_of) (sym found)

-- what is found, or the rule that is broken without it
pub if_found : {T E : Type 0} (P : T → Type 0) (o : Option T) (e : E) (r : Result T E) → r ≡ ok_or o e → ((x : T) → o ≡ Some x → P x) → IfOk r P
if_found P (Some x) e r is some = subst (λ a. IfOk a P) (sym is) (some x refl)
if_found P None e r is some = subst (λ a. IfOk a P) (sym is) tt

pub if_missing : {T E : Type 0} (Q : E → Type 0) (o : Option T) (e : E) (r : Result T E) → r ≡ ok_or o e → (o ≡ None → Q e) → IfErr r Q
if_missing Q (Some x) e r is none = subst (λ a. IfErr a Q) (sym is) tt
if_missing Q None e r is none = subst (λ a. IfErr a Q) (sym is) (none refl)

-- what `?` returns of a fault
pub if_given : {T U E : Type 0} (Q : E → Type 0) (o : Option U) (e given : E) (r : Result T E) → IsErr r × IsErrAnd r (λ x. x ≡ given) → Err given ≡ ok_or o e → o ≡ None → Q e → IfErr r Q
if_given Q (Some x) e given r gives is none holds = absurd (cc)
if_given Q None e given (Ok x) gives is none holds = tt
if_given Q None e given (Err x) gives is none holds = let same : e ≡ given = cc in subst Q (same ∙ sym gives.1) holds
