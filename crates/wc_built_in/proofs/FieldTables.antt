-- What is found in the table of a standard block's fields.
use Rattle.std.proofs.Common.{◌≡◌, ℕ, ◌+◌, ◌<◌, Bool, true, false, not, ◌&&◌, List, [], ◌∷◌, Option, Some, None, cond, ltb, ltb-true, map, length, option_map, refl, sym, ap, ◌∙◌, arith}
use Rattle.wc_model.proofs.Common.{ltb-false, position_from-zero, find_at, slice_get_past, bytes_eq-Decides, decided, list_any, position_from, position_or_len}
use Rattle.std.specs.Prelude.{◌||◌, find, option_and_then, slice_get}
use Rattle.wc_model.specs.Definitions.{member_named, same_name, standard_members, Name, name_of, Content, standard_fields}
use Rattle.wc_model.specs.declared.block.StandardBlock.{StandardBlock}
use Rattle.wc_model.specs.declared.block.StandardBlock.TheVariants.{RTrig}
use Rattle.wc_built_in.specs.Fields.{Seen, field_content, field_seen, is_named, member_seen, named_field, named_fields, named_member, named_seen}
use Rattle.wc_built_in.specs.declared.fields.StandardField.{StandardField}

pub position_from-map : {X Y : Type 0} (f : X → Y) (p : Y → Bool) (i : ℕ) (xs : List X) → position_from p i (map f xs) ≡ position_from (λ x. p (f x)) i xs
position_from-map f p i [] = refl
position_from-map f p i (x ∷ xs) = ap (λ o. cond (p (f x)) (Some i) o) (position_from-map f p (i + 1) xs)

-- what has the number that is found is the first that passes
pub found_by : {X : Type 0} (p : X → Bool) (xs : List X) (o : Option ℕ) → o ≡ position_from p 0 xs → find p xs ≡ option_and_then (slice_get xs) o
found_by p xs o e = find_at p xs ∙ by (ltb (position_or_len p xs) (length xs)) refl ∙ ap (option_and_then (slice_get xs)) (position_from-zero p xs ∙ sym e)
  where
    by : (b : Bool) → ltb (position_or_len p xs) (length xs) ≡ b → slice_get xs (position_or_len p xs) ≡ option_and_then (slice_get xs) (cond b (Some (position_or_len p xs)) None)
    by true t = refl
    by false t = slice_get_past xs (position_or_len p xs) (ltb-false (position_or_len p xs) (length xs) t)

pub number_below : {X : Type 0} (p : X → Bool) (xs : List X) (n : ℕ) → position_from p 0 xs ≡ Some n → n < length xs
number_below p xs n e = by (ltb (position_or_len p xs) (length xs)) refl (position_from-zero p xs ∙ e)
  where
    by : (b : Bool) → ltb (position_or_len p xs) (length xs) ≡ b → cond b (Some (position_or_len p xs)) None ≡ Some n → n < length xs
    by true t f = let below = ltb-true (position_or_len p xs) (length xs) t in let same : position_or_len p xs ≡ n = cc in omega (arith, below, same)
    by false t f = cc

-- the table finds what the definition does
pub number_is : (fields : List StandardField) (block : StandardBlock) (name : Name) → map field_content fields ≡ standard_fields block →
    position_from (λ f. same_name (name_of f.name.now) name) 0 fields ≡ position_from (λ f. same_name f.0 name) 0 (standard_fields block)
number_is fields block name e = sym (position_from-map field_content (λ f. same_name f.0 name) 0 fields) ∙ ap (position_from (λ (f : Name × Content). same_name f.0 name) 0) e

-- no two fields of a block have one name
abbrev are_different : List Name → Bool
are_different [] = true
are_different (name ∷ names) = not (list_any (same_name name) names) && are_different names

fields_differ : (block : StandardBlock) → are_different (map (λ f. f.0) (standard_fields block)) ≡ true
fields_differ RTrig = refl
fields_differ block = refl

abbrev names_of : List StandardField → List Name
names_of fields = map (λ f. name_of f.name.now) fields

names_kept : (fields : List StandardField) → map (λ f. f.0) (map field_content fields) ≡ names_of fields
names_kept [] = refl
names_kept (f ∷ fields) = ap (λ names. name_of f.name.now ∷ names) (names_kept fields)

abbrev has_name : Name → StandardField → Bool
has_name name f = same_name (name_of f.name.now) name

both : (a b : Bool) → (a || b) ≡ false → (a ≡ false) × (b ≡ false)
both true b h = cc
both false b h = (refl, h)

differ : (a b : Bool) → (not a && b) ≡ true → (a ≡ false) × (b ≡ true)
differ true b h = cc
differ false b h = (refl, h)

-- a name that no field has is not that of an input or output
none_named : (fields : List StandardField) (name : Name) → list_any (same_name name) (names_of fields) ≡ false → find (has_name name) (named_fields fields) ≡ None
none_named [] name e = refl
none_named (f ∷ fields) name e =
    let parts = both (same_name name (name_of f.name.now)) (list_any (same_name name) (names_of fields)) e in
    by (is_named f.section) refl ((decided same_name (λ x y. bytes_eq-Decides x y)).symm (name_of f.name.now) name ∙ parts.0) (none_named fields name parts.1)
  where
    by : (named : Bool) → is_named f.section ≡ named → has_name name f ≡ false → find (has_name name) (named_fields fields) ≡ None → find (has_name name) (named_fields (f ∷ fields)) ≡ None
    by true n other rest = rw n (rw other rest)
    by false n other rest = rw n rest

-- the first of a name, if a text can name it, is the first such among those that a text can name
named_found : (fields : List StandardField) (name : Name) → are_different (names_of fields) ≡ true → option_and_then named_seen (find (has_name name) fields) ≡ option_map field_seen (find (has_name name) (named_fields fields))
named_found [] name d = refl
named_found (f ∷ fields) name d =
    let parts = differ (list_any (same_name (name_of f.name.now)) (names_of fields)) (are_different (names_of fields)) d in
    by (is_named f.section) (has_name name f) refl refl parts.0 (named_found fields name parts.1)
  where
    by : (named same : Bool) → is_named f.section ≡ named → has_name name f ≡ same → list_any (same_name (name_of f.name.now)) (names_of fields) ≡ false → option_and_then named_seen (find (has_name name) fields) ≡ option_map field_seen (find (has_name name) (named_fields fields)) →
        option_and_then named_seen (find (has_name name) (f ∷ fields)) ≡ option_map field_seen (find (has_name name) (named_fields (f ∷ fields)))
    by true true n s none rest = rw n (rw s (rw n refl))
    by true false n s none rest = rw n (rw s rest)
    by false true n s none rest =
        let e = (bytes_eq-Decides (name_of f.name.now) name).0 s in
        rw n (rw s (rw n (sym (ap (option_map field_seen) (none_named fields name (ap (λ x. list_any (same_name x) (names_of fields)) (sym e) ∙ none))))))
    by false false n s none rest = rw n (rw s rest)

find-map : {X Y : Type 0} (f : X → Y) (p : Y → Bool) (xs : List X) → option_map f (find (λ x. p (f x)) xs) ≡ find p (map f xs)
find-map f p [] = refl
find-map f p (x ∷ xs) = by (p (f x)) refl (find-map f p xs)
  where
    by : (b : Bool) → p (f x) ≡ b → option_map f (find (λ y. p (f y)) xs) ≡ find p (map f xs) → option_map f (find (λ y. p (f y)) (x ∷ xs)) ≡ find p (map f (x ∷ xs))
    by true b rest = rw b refl
    by false b rest = rw b rest

-- without its name
seen_of : {X : Type 0} (f : X → Name × Seen) (o : Option X) → option_map (λ (e : Name × Seen). e.1) (option_map f o) ≡ option_map (λ x. (f x).1) o
seen_of f None = refl
seen_of f (Some x) = refl

pub member_is : (fields : List StandardField) (block : StandardBlock) (name : Name) → map field_content fields ≡ standard_fields block → map named_field (named_fields fields) ≡ map named_member (standard_members block) →
    option_and_then named_seen (find (λ f. same_name (name_of f.name.now) name) fields) ≡ option_map member_seen (member_named (standard_members block) name)
member_is fields block name e m =
    let is : Name × Seen → Bool = λ entry. same_name entry.0 name in
    named_found fields name (ap are_different (sym (names_kept fields) ∙ ap (map (λ (f : Name × Content). f.0)) e) ∙ fields_differ block)
    ∙ sym (seen_of named_field (find (λ f. same_name (name_of f.name.now) name) (named_fields fields)))
    ∙ ap (option_map (λ (entry : Name × Seen). entry.1)) (find-map named_field is (named_fields fields) ∙ ap (find is) m ∙ sym (find-map named_member is (standard_members block)))
    ∙ seen_of named_member (member_named (standard_members block) name)
