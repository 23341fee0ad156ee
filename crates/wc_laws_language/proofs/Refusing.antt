-- The first broken rule is the first.
use Rattle.wc_model.proofs.Common.{◌≡◌, Bool, true, false, List, [], ◌∷◌, ◌++◌, ◌&&◌, Some, refl, sym, ap, ◌∙◌, if◌then◌else◌, list_all}
use Rattle.wc_model.specs.Language.Checks.{Check, Refusal, IsFirstBroken, first_broken}

-- the refusal of a broken rule
abbrev pub refusal_of : Check → Refusal
refusal_of check = record { number = check.number; line = check.line }

-- a rule that holds goes before
pub after_a_rule_that_holds : (check : Check) (checks : List Check) (refusal : Refusal) → check.holds ≡ true → IsFirstBroken checks refusal → IsFirstBroken (check ∷ checks) refusal
after_a_rule_that_holds check checks refusal holds first = record {
  before = check ∷ first.before;
  broken = first.broken;
  following = first.following;
  asked = ap (λ cs. check ∷ cs) first.asked;
  fails = first.fails;
  is_it = first.is_it;
  none_before = ap (λ b. b && list_all (λ (c : Check). c.holds) first.before) holds ∙ first.none_before;
}

-- a broken rule at the start is the first
pub at_the_prefix : (check : Check) (checks : List Check) (refusal : Refusal) → check.holds ≡ false → Some (refusal_of check) ≡ Some refusal → IsFirstBroken (check ∷ checks) refusal
at_the_prefix check checks refusal fails e = record { before = []; broken = check; following = checks; asked = refl; fails = fails; is_it = cc; none_before = refl }

-- what is found is the first, by whether the rule at the start holds
pub found_by : (b : Bool) (check : Check) (checks : List Check) (refusal : Refusal) → (first_broken checks ≡ Some refusal → IsFirstBroken checks refusal) → check.holds ≡ b → (if b then first_broken checks else Some (refusal_of check)) ≡ Some refusal → IsFirstBroken (check ∷ checks) refusal
found_by true check checks refusal rest holds e = after_a_rule_that_holds check checks refusal holds (rest e)
found_by false check checks refusal rest fails e = at_the_prefix check checks refusal fails e

pub found_is_first : (checks : List Check) (refusal : Refusal) → first_broken checks ≡ Some refusal → IsFirstBroken checks refusal
found_is_first [] refusal e = cc
found_is_first (check ∷ checks) refusal e = found_by check.holds check checks refusal (found_is_first checks refusal) refl e

-- what follows rules that all hold is found
pub found_after : (before : List Check) (broken : Check) (following : List Check) → list_all (λ (check : Check). check.holds) before ≡ true → broken.holds ≡ false → first_broken (before ++ broken ∷ following) ≡ Some (refusal_of broken)
found_after [] broken following hold fails = rw fails refl
found_after (check ∷ before) broken following hold fails = step check.holds refl hold (found_after before broken following)
  where
    step : (b : Bool) → check.holds ≡ b → (b && list_all (λ (c : Check). c.holds) before) ≡ true → (list_all (λ (c : Check). c.holds) before ≡ true → broken.holds ≡ false → first_broken (before ++ broken ∷ following) ≡ Some (refusal_of broken)) → first_broken (check ∷ before ++ broken ∷ following) ≡ Some (refusal_of broken)
    step true holds rest go = rw holds (go rest fails)
    step false holds rest go = cc

-- and the first is what is found
pub first_is_found : (checks : List Check) (refusal : Refusal) → IsFirstBroken checks refusal → first_broken checks ≡ Some refusal
first_is_found checks refusal first = ap first_broken first.asked ∙ (found_after first.before first.broken first.following first.none_before first.fails ∙ ap Some (sym first.is_it))
