-- What is tried of all numbers below one holds of each of them.
use Rattle.wc_model.proofs.Common.{◌≡◌, ℕ, zero, suc, ◌<◌, Bool, true, false, [], ◌∷◌, refl, sym, ap, ◌∙◌, arith, nat_tests, and_parts, eqb-true, list_all-append, list_all}
use Rattle.std.specs.Prelude.{nat_eq, ◌&&◌}
use Rattle.wc_model.specs.Language.DirectVariables.{numbers_below}

-- what holds of all numbers holds of each
pub each_below : (p : ℕ → Bool) (n i : ℕ) → list_all p (numbers_below n) ≡ true → i < n → p i ≡ true
each_below p zero i all below = absurd (omega arith)
each_below p (suc n) i all below =
    let parts = and_parts (list_all p (numbers_below n)) (p n && true) (sym (list_all-append p (numbers_below n) (n ∷ [])) ∙ all) in
    by (nat_eq i n) refl (and_parts (p n) true parts.1).0 (each_below p n i parts.0)
  where
    by : (b : Bool) → nat_eq i n ≡ b → p n ≡ true → (i < n → p i ≡ true) → p i ≡ true
    by true same last rest = ap p (eqb-true i n same) ∙ last
    by false other last rest =
        let less : i < n = grind (arith, nat_tests) in
        rest less
