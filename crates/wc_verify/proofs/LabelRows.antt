-- What is next to a name once a row is kept.
use Rattle.wc_model.proofs.Common.{◌≡◌, Bool, true, false, List, [], ◌∷◌, Option, Some, cond, refl, sym, ap, ◌∙◌, if◌then◌else◌, lookup}
use Rattle.indexmap.specs.IndexMap.{insert_entry}
use Rattle.wc_model.specs.Definitions.{named_in, same_name, Name}
use Rattle.wc_names.specs.Keys.{name_of_key, same_key, same_name_laws}
use Rattle.wc_laws_language.proofs.Tests.{same_name-sound}
use Rattle.wc_verify.specs.Bodies.{named_rows, row_of}
use Rattle.wc_names.specs.declared.key.Key.{Key}
use Rattle.wc_verify.specs.declared.labels.LabelRow.{LabelRow}

-- a row of the same name is changed
same_kept : {X : Type 0} (b : Bool) (v w : X) (o : Option X) → (if b then Some v else o) ≡ (if b then Some v else (if b then Some w else o))
same_kept true v w o = refl
same_kept false v w o = refl

-- one of another name stays
other_kept : {X : Type 0} (a b : Bool) (v w : X) (o : Option X) → (a ≡ true → b ≡ true → false ≡ true) → (if a then Some w else (if b then Some v else o)) ≡ (if b then Some v else (if a then Some w else o))
other_kept true true v w o h = absurd (cc (h refl refl))
other_kept true false v w o h = refl
other_kept false true v w o h = refl
other_kept false false v w o h = refl

step : {X : Type 0} (k : Key) (v : X) (entry : Key × X) (es : List (Key × X)) (name : Name) (b : Bool) → same_name (name_of_key entry.0) (name_of_key k) ≡ b →
    named_in (named_rows (insert_entry same_key es k v)) name ≡ (if same_name (name_of_key k) name then Some v else named_in (named_rows es) name) →
    named_in (named_rows (if b then (entry.0, v) ∷ es else entry ∷ insert_entry same_key es k v)) name ≡ (if same_name (name_of_key k) name then Some v else named_in (named_rows (entry ∷ es)) name)
step k v entry es name true e more =
    let same : name_of_key entry.0 ≡ name_of_key k = same_name-sound (name_of_key entry.0) (name_of_key k) e in
    rw same (same_kept (same_name (name_of_key k) name) v entry.1 (named_in (named_rows es) name))
step k v entry es name false e more =
    rw more (other_kept (same_name (name_of_key entry.0) name) (same_name (name_of_key k) name) v entry.1 (named_in (named_rows es) name)
    (λ p q. sym e ∙ ap (λ n. same_name n (name_of_key k)) (same_name-sound (name_of_key entry.0) name p) ∙ same_name_laws.symm name (name_of_key k) ∙ q))

pub kept : {X : Type 0} (k : Key) (v : X) (es : List (Key × X)) (name : Name) → named_in (named_rows (insert_entry same_key es k v)) name ≡ (if same_name (name_of_key k) name then Some v else named_in (named_rows es) name)
kept k v [] name = refl
kept k v (entry ∷ es) name = step k v entry es name (same_name (name_of_key entry.0) (name_of_key k)) refl (kept k v es name)

-- what is looked up by a key is what is next to its name
pub looked_up : {X : Type 0} (k : Key) (es : List (Key × X)) → lookup (same_key k) es ≡ named_in (named_rows es) (name_of_key k)
looked_up k [] = refl
looked_up k (entry ∷ es) = ap (λ o. cond (same_name (name_of_key entry.0) (name_of_key k)) (Some entry.1) o) (looked_up k es)

-- the row of what is kept
pub row_chosen : (b : Bool) (row : LabelRow) (o : Option LabelRow) → row_of (if b then Some row else o) ≡ (if b then row else row_of o)
row_chosen true row o = refl
row_chosen false row o = refl
