-- A row as it is shown.
use Rattle.std.proofs.Common.{◌≡◌, ◌∙◌, ◌+◌, ℕ, zero, suc, List, [], ◌∷◌, ◌++◌, ◌<◌, Option, Some, None, IfSome, length, min, take, refl, ap, sym, subst, arith}
use Rattle.std.proofs.lemmas.List.{append_assoc, append-nil, take_min}
use Rattle.std.specs.Prelude.{flat_map, unwrap_or}
use Rattle.csv.specs.Records.{field_at}
use Rattle.wc_diag_spans.specs.{IsCutTo, IsKept, MeansField, after_comma, cut_field, glued, joined, shown_field, shown_row}
use Rattle.wc_diag_spans.specs.declared.diagnostic.Diagnostic.{Diagnostic}
use Rattle.wc_diag_spans.specs.declared.diagnostic.Span.{Span}
use Rattle.wc_model.specs.Run.Log.{Record}

-- one field more after others
later_field : (fields : Record) (k : ℕ) (field : List ℕ) → field_at fields k ≡ Some field
    → flat_map after_comma (take (suc k) fields) ≡ flat_map after_comma (take k fields) ++ after_comma field
unfolding field_at
later_field [] k field e = absurd (cc)
later_field (f ∷ fs) zero field e =
    let same : f ≡ field = cc in
    rw same (append-nil (after_comma field))
later_field (f ∷ fs) (suc k) field e = ap (λ rest. after_comma f ++ rest) (later_field fs k field e) ∙ sym (append_assoc (after_comma f) (flat_map after_comma (take k fs)) (after_comma field))

-- one field more
pub one_field_more : (fields : Record) (k : ℕ) (field : List ℕ) → field_at fields k ≡ Some field
    → joined (take (suc k) fields) ≡ joined (take k fields) ++ glued k (cut_field field)
unfolding field_at
one_field_more [] k field e = absurd (cc)
one_field_more (f ∷ fs) zero field e =
    let same : f ≡ field = cc in
    rw same (append-nil (cut_field field))
one_field_more (f ∷ fs) (suc k) field e = ap (λ rest. cut_field f ++ rest) (later_field fs k field e) ∙ sym (append_assoc (cut_field f) (flat_map after_comma (take k fs)) (after_comma field))

-- a field that is there
field_there : (fields : Record) (k : ℕ) → k < length fields → field_at fields k ≡ Some (unwrap_or (field_at fields k) [])
unfolding field_at
field_there [] k few = absurd (omega (arith, few))
field_there (f ∷ fs) zero few = refl
field_there (f ∷ fs) (suc k) few = field_there fs k (omega (arith, few))

-- so the row grows by it
pub row_grows : (fields : Record) (k : ℕ) → k < length fields → joined (take (k + 1) fields) ≡ joined (take k fields) ++ glued k (shown_field fields k)
row_grows fields k few =
    let next : k + 1 ≡ suc k = omega arith in
    rw next (one_field_more fields k (unwrap_or (field_at fields k) []) (field_there fields k few))

-- as many fields as are shown
pub row_shown : (fields : Record) (count : ℕ) → count ≡ min (length fields) 128 → joined (take count fields) ≡ shown_row fields
row_shown fields count e =
    let turned : count ≡ min 128 (length fields) = omega (arith, e) in
    ap (λ n. joined (take n fields)) turned ∙ ap joined (take_min 128 fields)

-- a span that is kept refers to the field that was found
pub field_kept : (number line : ℕ) (fields : Record) (old new : Diagnostic) (span : Option Span) → IfSome old.span (MeansField number fields)
    → IfSome span (λ s. IsKept old new line s) → IfSome span (λ s. (found : Span) × MeansField number fields found × IsCutTo new.shown.items found s)
field_kept number line fields old new None means kept = tt
field_kept number line fields old new (Some s) means kept =
    (kept.found, subst (λ o. IfSome o (MeansField number fields)) kept.was means, record { start = kept.start; size = kept.size })
