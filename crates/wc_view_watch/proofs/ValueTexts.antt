-- The text of a value that is watched.
use Rattle.wc_model.proofs.Common.{◌≡◌, ℕ, List, [], ◌∷◌, ◌++◌, false, Option, Some, None, refl, sym, ap, ◌∙◌, is_some}
use Rattle.wc_view_changes.specs.ChangeReport.{content_text}
use Rattle.wc_model.specs.Language.Store.{Location, Content, Plain, Store}
use Rattle.wc_model.specs.Language.Tree.{Text}
use Rattle.wc_text_variables.proofs.Readings.{Reads, known}
use Rattle.wc_text_variables.specs.Names.{variable_named, named_location}
use Rattle.wc_view_watch.specs.Plans.{text_at, value_text}
use Rattle.wc_text_variables.specs.declared.variables.NamedVariable.{NamedVariable}

-- what is written of a value that is there
pub shown : (text : Text) (store : Store) (name : List ℕ) (watched : NamedVariable) (r : Reads text store name watched)
    → value_text text store name ≡ 32 ∷ (name ++ 61 ∷ content_text (Plain r.value))
shown text store name watched r =
    ap (λ (place : Option Location). elim place as (λ x. List ℕ) [ Some p ↦ 32 ∷ (name ++ 61 ∷ text_at store p) | None ↦ [] ]) r.is
    ∙ ap (λ (content : Option Content). 32 ∷ (name ++ 61 ∷ (elim content as (λ x. List ℕ) [ Some c ↦ content_text c | None ↦ [] ]))) r.there

-- a name that means nothing has no place, and is not written
pub no_place : (text : Text) (name : List ℕ) → variable_named text name ≡ None → named_location text name ≡ None
no_place text name e = by (named_location text name) (sym (known text name) ∙ ap is_some e)
  where
    by : (place : Option Location) → is_some place ≡ false → place ≡ None
    by None e = refl
    by (Some place) e = absurd (cc (e))

pub not_shown : (text : Text) (store : Store) (name : List ℕ) → variable_named text name ≡ None → value_text text store name ≡ []
not_shown text store name e = ap (λ (place : Option Location). elim place as (λ x. List ℕ) [ Some p ↦ 32 ∷ (name ++ 61 ∷ text_at store p) | None ↦ [] ]) (no_place text name e)
