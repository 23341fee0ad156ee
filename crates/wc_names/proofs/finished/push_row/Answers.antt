use Rattle.wc_model.proofs.Common.{◌≡◌, ◌++◌, ◌∷◌, ◌∙◌, [], Some, ap, arith, of_z, refl, subst, sym, to_z, w64, ints}
use Rattle.wc_laws_language.specs.FirstNumbers.{IsFirst}
use Rattle.wc_names.specs.Carrying.{IsGrown}
use Rattle.wc_names.proofs.HandedOn.{both_ok, on_ok}
use Rattle.wc_names.proofs.Spread.{finished_more, held_block, held_elementary, held_standard}
use Rattle.wc_names.proofs.finished.push_row.Goals as goal

pub returns-in-Elementary-clause-grown : goal.returns-in-Elementary-clause-grown
returns-in-Elementary-clause-grown c = λ units before u v h done initial typed.
    let raw : to_z w64 (of_z w64 c.first_number.result) ≡ c.first_number.result = omega (arith, ints) in
    both_ok c.push.result
    (λ kinds initials. subst (IsGrown c.args.frame.now c.push.new.frame) (sym (held_elementary before v c.in-Elementary.kind (typed ∙ ap Some c.in-Elementary.is)))
    (record {
      kinds = kinds ∙ ap (λ k. c.args.frame.now.kinds.items ++ k ∷ []) (c.slot_of.ensures.content v.initial);
      initials = initials ∙ ap (λ n. c.args.frame.now.initials.items ++ n ∷ []) (raw ∙ c.first_number.ensures.content v.initial initial);
    }))
    c.push.ensures.kinds c.push.ensures.initials

pub returns-in-Elementary-clause-first : goal.returns-in-Elementary-clause-first
returns-in-Elementary-clause-first c =
    let raw : to_z w64 (of_z w64 c.first_number.result) ≡ c.first_number.result = omega (arith, ints) in
    on_ok c.push.result
    (λ add each held. add (subst (λ n. IsFirst c.slot_of.result n) (sym raw) (subst (λ k. IsFirst k c.first_number.result) (sym c.slot_of.ensures.kind) c.first_number.ensures.first)) held)
    c.push.ensures.first

pub returns-in-Standard-clause-grown : goal.returns-in-Standard-clause-grown
returns-in-Standard-clause-grown c = λ units before u v h done initial typed.
    on_ok c.push_standard.result
    (subst (IsGrown c.args.frame.now c.push_standard.new.frame) (sym (held_standard before v c.in-Standard.block (typed ∙ ap Some c.in-Standard.is))))
    c.push_standard.ensures.grown

pub returns-in-Block-clause-grown : goal.returns-in-Block-clause-grown
returns-in-Block-clause-grown c = λ units before u v h done initial typed.
    let b = held_block units before u h v c.in-Block.block (typed ∙ ap Some c.in-Block.is) in
    both_ok c.push_finished.result
    (λ kinds initials. subst (IsGrown c.args.frame.now c.push_finished.new.frame) (sym b.held)
    (finished_more units before u _ c.args.finished.now v c.in-Block.block c.args.frame.now c.push_finished.new.frame b refl done kinds initials))
    c.push_finished.ensures.kinds c.push_finished.ensures.initials
