-- The result that was last put by is the first of those newest first.
use Rattle.std.proofs.Common.{◌≡◌, rules, [], ◌∷◌, Some, reverse, refl, ap, sym, ◌∙◌, subst, to_z, of_z, w32}
use Rattle.std.proofs.lemmas.List.{reverse-append}
use Rattle.wc_text_flat.specs.NumberOperators.{apply_number}
use Rattle.wc_execution.proofs.operators.close.Goals as goal
use Rattle.wc_execution.specs.Lines.{IsClosed}

pub returns-in-Some : goal.returns-in-Some
returns-in-Some c =
    let outer = c.in-Some.outer in
    let split : reverse c.args.deferred.now.items ≡ outer ∷ reverse c.pop.new.self.items = ap reverse c.in-Some.ensures.items ∙ reverse-append c.pop.new.self.items (outer ∷ []) in
    let done : apply_number c.args.operator outer c.args.inner ≡ Some (to_z w32 (of_z w32 c.apply_number.result)) = search rules in
    subst (λ xs. IsClosed c.args.operator c.args.inner xs (to_z w32 (of_z w32 c.apply_number.result)) (reverse c.pop.new.self.items)) (sym split) (done, refl)
