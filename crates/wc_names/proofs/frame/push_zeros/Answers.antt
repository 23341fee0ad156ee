use Rattle.std.proofs.Common.{◌≡◌, ◌+◌, ◌++◌, get_or, ◌∷◌, [], drop, length, ap, refl, sym, ◌∙◌}
use Rattle.std.proofs.lemmas.List.{append-nil, drop_all}
use Rattle.std.specs.Prelude.{pos, replicate}
use Rattle.wc_model.specs.declared.kind.SlotKind.TheVariants as SlotKind
use Rattle.wc_names.proofs.FirstSlots.{zero_is_first}
use Rattle.wc_names.proofs.Lists.{from_index_or}
use Rattle.wc_names.proofs.Spread.{chunk_added}
use Rattle.wc_names.proofs.frame.push_zeros.Goals as goal

pub loop-kind-init : goal.loop-kind-init
loop-kind-init c = record { kinds = refl; initials = refl; first = λ h. h }

pub loop-kind-preserved : goal.loop-kind-preserved
loop-kind-preserved c =
    let i = c.loop-kind.kind-index in
    let kinds = c.args.kinds.now in
    let old = c.loop-kind.frame in
    let new = c.push.new.frame in
    let cut = from_index_or kinds i SlotKind.Bool c.loop-kind-test.true in
    record {
      kinds =
          chunk_added old.kinds.items new.kinds.items (get_or kinds i SlotKind.Bool ∷ []) (drop (i + 1) kinds) (c.args.frame.now.kinds.items ++ kinds)
          (ap (λ xs. old.kinds.items ++ xs) (sym cut) ∙ c.loop-kind.invariant.kinds) c.in_ok-push.ensures.kinds;
      initials =
          chunk_added old.initials.items new.initials.items (pos 0 ∷ []) (replicate (length (drop (i + 1) kinds)) (pos 0)) (c.args.frame.now.initials.items ++ replicate (length kinds) (pos 0))
          (ap (λ xs. old.initials.items ++ replicate (length xs) (pos 0)) (sym cut) ∙ c.loop-kind.invariant.initials) c.in_ok-push.ensures.initials;
      first = λ h. c.in_ok-push.ensures.first (zero_is_first (get_or kinds i SlotKind.Bool)) (c.loop-kind.invariant.first h);
    }

pub returns-clause-kinds : goal.returns-clause-kinds
returns-clause-kinds c =
    let end : drop c.loop-kind.kind-index c.args.kinds.now ≡ [] = drop_all c.loop-kind.kind-index c.args.kinds.now c.loop-kind-test.false in
    sym (append-nil c.loop-kind.frame.kinds.items) ∙ (ap (λ xs. c.loop-kind.frame.kinds.items ++ xs) (sym end) ∙ c.loop-kind.invariant.kinds)

pub returns-clause-initials : goal.returns-clause-initials
returns-clause-initials c =
    let end : drop c.loop-kind.kind-index c.args.kinds.now ≡ [] = drop_all c.loop-kind.kind-index c.args.kinds.now c.loop-kind-test.false in
    sym (append-nil c.loop-kind.frame.initials.items) ∙ (ap (λ xs. c.loop-kind.frame.initials.items ++ replicate (length xs) (pos 0)) (sym end) ∙ c.loop-kind.invariant.initials)
