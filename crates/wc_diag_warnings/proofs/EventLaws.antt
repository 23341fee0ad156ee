-- An event is warned of exactly if what the warning says is so. (No rule of the language.)
use Rattle.wc_model.proofs.Common.{◌≡◌, ℕ, Bool, true, false, not, ◌&&◌, ◌||◌, List, [], ◌∷◌, ◌++◌, inl, inr, Some, refl, ap, sym, ◌∙◌, append_assoc, arith, list_any, and_parts, and_right, both_ways, false_from_ne_true, not-true, or_cases, or_from, or_parts, or_right}
use Rattle.wc_model.specs.Language.DirectVariables.{DirectVariable}
use Rattle.wc_diag_warnings.proofs.WayLaws.{edges_there}
use Rattle.wc_diag_warnings.specs.{action_asks, action_stores, reads_valid, reads_weight, stores, Action, Begins, BodyEvent, IsNoted, not_reached, stored_again, unasked, EachEventWarningIsSo, begins_stretch, action_begins, is_above_reached, is_stored_again, is_unasked, number_at, is_on, is_reached}

-- what begins an instruction does nothing else, and what reads stores nothing
begins_is : (action : Action) → action_begins action ≡ true → action ≡ Begins
begins_is Begins e = refl
begins_is action e = cc

no_store_begins : (test : DirectVariable → Bool) (action : Action) → action_stores test action ≡ true → action_begins action ≡ false
no_store_begins test action e = grind arith

no_read_begins : (test : DirectVariable → Bool) (action : Action) → action_asks test action ≡ true → action_begins action ≡ false
no_read_begins test action e = grind arith

no_read_stores : (test other : DirectVariable → Bool) (action : Action) → action_asks test action ≡ true → action_stores other action ≡ false
no_read_stores test other action e = grind arith

module _ (events before : List BodyEvent) (e : BodyEvent) where
  -- some output of the list
  again_so : (numbers prefix all : List ℕ) → all ≡ prefix ++ numbers → is_stored_again numbers before e ≡ true → IsNoted all events before e 8
  again_so [] prefix all whole found = cc
  again_so (output ∷ numbers) prefix all whole found =
      elim (or_cases (is_on false (stores output) before e && stores output e) (is_stored_again numbers before e) found) [
        | inl h ↦ let both = and_parts (is_on false (stores output) before e) (stores output e) h in
            stored_again prefix numbers output whole both.1 ((edges_there false (stores output) before e).0 both.0)
        | inr h ↦ again_so numbers (prefix ++ output ∷ []) all (whole ∙ sym (append_assoc prefix (output ∷ []) numbers)) h
      ]

  again_found : (output : ℕ) (prefix following : List ℕ) → is_on false (stores output) before e ≡ true → stores output e ≡ true →
      is_stored_again (prefix ++ output ∷ following) before e ≡ true
  again_found output [] following s h = cc
  again_found output (n ∷ prefix) following s h =
      or_right (is_on false (stores n) before e && stores n e) (is_stored_again (prefix ++ output ∷ following) before e) (again_found output prefix following s h)

  none_again : (numbers : List ℕ) → reads_weight e ≡ true → is_stored_again numbers before e ≡ false
  none_again [] r = refl
  none_again (n ∷ numbers) r =
      or_from (is_on false (stores n) before e && stores n e) (is_stored_again numbers before e)
      (and_right (is_on false (stores n) before e) (stores n e) (no_read_stores _ _ e.action r)) (none_again numbers r)

  -- a stretch begins
  stretch_so : (numbers : List ℕ) → begins_stretch before e ≡ true → IsNoted numbers events before e 7
  stretch_so numbers s =
      let both = and_parts (action_begins e.action && is_above_reached before) (not (is_reached before e)) s in
      let begins = and_parts (action_begins e.action) (is_above_reached before) both.0 in
      not_reached (begins_is e.action begins.0)
      (λ w. both_ways (is_reached before e) (not-true (is_reached before e) both.1) ((edges_there true (λ any. false) before e).1 w)) begins.1

  unasked_so : (numbers : List ℕ) → is_unasked events before e ≡ true → IsNoted numbers events before e 9
  unasked_so numbers u =
      let both = and_parts (reads_weight e) (not (list_any reads_valid events || list_any reads_weight before)) u in
      let none = or_parts (list_any reads_valid events) (list_any reads_weight before)
      (not-true (list_any reads_valid events || list_any reads_weight before) both.1) in
      unasked both.0 none.0 none.1

  so : (numbers : List ℕ) (number : ℕ) → number_at numbers events before e ≡ Some number → IsNoted numbers events before e number
  so numbers number q = grind (arith, stretch_so numbers, again_so numbers [] numbers refl, unasked_so numbers)

  -- what is so is warned of
  noted : {numbers : List ℕ} {number : ℕ} → IsNoted numbers events before e number → number_at numbers events before e ≡ Some number
  noted {numbers} (not_reached b w a) =
      let off = false_from_ne_true (is_reached before e) (λ on. w ((edges_there true (λ any. false) before e).0 on)) in
      let begins : action_begins e.action ≡ true = ap action_begins b in
      cc
  noted {numbers} (stored_again prefix following output whole h w) =
      let begins = no_store_begins _ e.action h in
      let again : is_stored_again numbers before e ≡ true =
      ap (λ ns. is_stored_again ns before e) whole ∙ again_found output prefix following ((edges_there false (stores output) before e).1 w) h in
      cc
  noted {numbers} (unasked r v b) =
      let begins = no_read_begins _ e.action r in
      let again = none_again numbers r in
      cc

pub events_so : EachEventWarningIsSo
events_so numbers events before e number = (so events before e numbers number, λ w. noted events before e w)
