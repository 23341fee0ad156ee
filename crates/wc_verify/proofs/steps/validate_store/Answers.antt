use Rattle.wc_model.proofs.Common.{◌≡◌, sym, subst, [], ◌∷◌, ◌++◌, Option, ℕ, refl, is_some}
use Rattle.wc_model.specs.Definitions.{store_checks, suits_target, truth_checks, writing_checks, asks, Scope, Term}
use Rattle.wc_model.specs.declared.kind.Kind.{Kind}
use Rattle.wc_model.specs.declared.operator.StoreKind.{StoreKind}
use Rattle.wc_model.specs.declared.operator.StoreKind.TheVariants.{Result as StoreResult, Negation, Set, Reset}
use Rattle.wc_verify.specs.Seeing.{Finds}
use Rattle.wc_verify.proofs.Found.{asked_as, joined, pair_found}
use Rattle.wc_verify.proofs.steps.validate_store.Goals as goal

-- what is asked of STN is asked of S and R too
of_truth : (scope : Scope) (storing : StoreKind) (term : Term) (kind : Option Kind) (found : Option ℕ) → (storing ≡ StoreResult → ⊥) → Finds (λ line. store_checks scope line Negation term kind) found → Finds (λ line. store_checks scope line storing term kind) found
of_truth scope StoreResult term kind found other h = absurd (other refl)
of_truth scope Negation term kind found other h = h
of_truth scope Set term kind found other h = h
of_truth scope Reset term kind found other h = h

pub returns-in-Result : goal.returns-in-Result
returns-in-Result c = λ scope term seen.
    subst (λ storing. Finds (λ line. store_checks scope line storing term c.args.kind) c.first_of.result) (sym c.in-Result.is)
    (λ line rest. joined (λ line. writing_checks scope line term) (λ line. asks 403 line (is_some c.args.kind) ∷ asks 402 line (suits_target scope term c.args.kind) ∷ []) c.validate_writing.result c.first_of-stored.result c.first_of.result
    (c.validate_writing.ensures scope term seen)
    (λ line rest. pair_found 403 402 c.is_some.result c.suits_target.result (is_some c.args.kind) (suits_target scope term c.args.kind) c.unless.result c.unless-in-Result.result c.first_of-stored.result c.unless.ensures c.unless-in-Result.ensures c.first_of-stored.ensures (sym c.is_some.ensures) (sym (c.suits_target.ensures scope term seen)) line rest)
    c.first_of.ensures line rest)

pub returns-in_default : goal.returns-in_default
returns-in_default c = λ scope term seen.
    of_truth scope c.args.storing term c.args.kind c.first_of-in_default.result c.in_default.not-Result
    (λ line rest. joined (λ line. writing_checks scope line term ++ truth_checks line c.args.kind) (λ line. asks 402 line (suits_target scope term c.args.kind) ∷ []) c.first_of-before.result c.unless-in_default.result c.first_of-in_default.result
    (joined (λ line. writing_checks scope line term) (λ line. truth_checks line c.args.kind) c.validate_writing-in_default.result c.validate_truth.result c.first_of-before.result (c.validate_writing-in_default.ensures scope term seen) c.validate_truth.ensures c.first_of-before.ensures)
    (asked_as 402 c.suits_target-in_default.result (suits_target scope term c.args.kind) c.unless-in_default.result c.unless-in_default.ensures (sym (c.suits_target-in_default.ensures scope term seen)))
    c.first_of-in_default.ensures line rest)
