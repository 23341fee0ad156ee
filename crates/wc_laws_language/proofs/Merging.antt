-- Lists of rules that are merged from two.
use Rattle.wc_model.proofs.Common.{◌≡◌, Bool, true, false, ◌&&◌, List, [], ◌∷◌, ◌++◌, Option, Some, refl, sym, ap, subst, ◌∙◌, ◌⊎◌, inl, inr, if◌then◌else◌, list_all}
use Rattle.wc_model.specs.Language.Checks.{Check, Refusal, first_broken}
use Rattle.wc_laws_language.specs.DeclarationLaws.{AreMerged}

-- all of the one, and all of the other
pub one_alone : (checks : List Check) → AreMerged checks [] checks
one_alone [] = (refl, refl)
one_alone (check ∷ checks) = inl (checks, refl, one_alone checks)

pub other_alone : (checks : List Check) → AreMerged [] checks checks
other_alone [] = (refl, refl)
other_alone (check ∷ checks) = inr (checks, refl, other_alone checks)

-- one merged list, and then another
pub merged_then : (one other merged more_one more_other more : List Check) → AreMerged one other merged → AreMerged more_one more_other more → AreMerged (one ++ more_one) (other ++ more_other) (merged ++ more)
merged_then one other [] more_one more_other more h k =
    subst (λ (a : List Check). AreMerged (a ++ more_one) (other ++ more_other) more) (sym h.0) (subst (λ (b : List Check). AreMerged more_one (b ++ more_other) more) (sym h.1) k)
merged_then one other (check ∷ merged) more_one more_other more (inl l) k =
    inl (l.0 ++ more_one, ap (λ (a : List Check). a ++ more_one) l.1, merged_then l.0 other merged more_one more_other more l.2 k)
merged_then one other (check ∷ merged) more_one more_other more (inr r) k =
    inr (r.0 ++ more_other, ap (λ (b : List Check). b ++ more_other) r.1, merged_then one r.0 merged more_one more_other more r.2 k)

-- the first that is broken, of a rule and the others
abbrev Fault : Type 0
Fault = Option Refusal

from_one : (holds : Bool) (refusal : Refusal) (whole one other : Fault) → (whole ≡ other) ⊎ (whole ≡ one)
    → ((if holds then whole else Some refusal) ≡ other) ⊎ ((if holds then whole else Some refusal) ≡ (if holds then one else Some refusal))
from_one true refusal whole one other h = h
from_one false refusal whole one other h = inr refl

from_other : (holds : Bool) (refusal : Refusal) (whole one other : Fault) → (whole ≡ other) ⊎ (whole ≡ one)
    → ((if holds then whole else Some refusal) ≡ (if holds then other else Some refusal)) ⊎ ((if holds then whole else Some refusal) ≡ one)
from_other true refusal whole one other h = h
from_other false refusal whole one other h = inl refl

pub first_of_merged : (one other merged : List Check) → AreMerged one other merged → (first_broken merged ≡ first_broken other) ⊎ (first_broken merged ≡ first_broken one)
first_of_merged one other [] h = inl (ap first_broken (sym h.1))
first_of_merged one other (check ∷ merged) (inl l) =
    subst (λ (a : List Check). (first_broken (check ∷ merged) ≡ first_broken other) ⊎ (first_broken (check ∷ merged) ≡ first_broken a)) (sym l.1)
    (from_one check.holds (record { number = check.number; line = check.line }) (first_broken merged) (first_broken l.0) (first_broken other) (first_of_merged l.0 other merged l.2))
first_of_merged one other (check ∷ merged) (inr r) =
    subst (λ (b : List Check). (first_broken (check ∷ merged) ≡ first_broken b) ⊎ (first_broken (check ∷ merged) ≡ first_broken one)) (sym r.1)
    (from_other check.holds (record { number = check.number; line = check.line }) (first_broken merged) (first_broken one) (first_broken r.0) (first_of_merged one r.0 merged r.2))

-- if none of the one is broken
both_hold : (a b : Bool) → (a && b) ≡ true → (a ≡ true) × (b ≡ true)
both_hold true b e = (refl, e)
both_hold false b e = cc

abbrev all_hold : List Check → Bool
all_hold checks = list_all (λ (check : Check). check.holds) checks

pub first_of_other : (one other merged : List Check) → AreMerged one other merged → all_hold one ≡ true → first_broken merged ≡ first_broken other
first_of_other one other [] h e = ap first_broken (sym h.1)
first_of_other one other (check ∷ merged) (inl l) e =
    let both = both_hold check.holds (all_hold l.0) (ap all_hold (sym l.1) ∙ e) in
    ap (λ (holds : Bool). if holds then first_broken merged else Some (record { number = check.number; line = check.line })) both.0 ∙ first_of_other l.0 other merged l.2 both.1
first_of_other one other (check ∷ merged) (inr r) e =
    ap (λ (fault : Fault). if check.holds then fault else Some (record { number = check.number; line = check.line })) (first_of_other one r.0 merged r.2 e) ∙ ap first_broken (sym r.1)
