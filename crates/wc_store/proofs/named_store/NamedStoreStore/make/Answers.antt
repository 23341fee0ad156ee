-- One more place of the next kind, 0; in the end there is one for each kind, and all are in their ranges.
use Rattle.wc_model.proofs.Common.{◌≡◌, ◌<◌, ap, sym, ◌∙◌, subst, arith, length, take, pos, replicate, None, take_more, take_all, length-take-le, lookup}
use Rattle.indexmap.proofs.CallerLemmas.{insert_entry-new}
use Rattle.wc_model.specs.declared.kind.SlotKind.TheVariants as slots
use Rattle.wc_store.proofs.Numbered.{AreZeros, is_place, none_yet, one_more, zeros_length}
use Rattle.wc_store.proofs.Ranges.{zeros_fit}
use Rattle.wc_store.proofs.named_store.NamedStoreStore.make.Goals as goal
use Rattle.wc_store.specs.Inside.{numbers_in, AreInRange}

pub loop-kind-preserved : goal.loop-kind-preserved
loop-kind-preserved c =
    let within : c.loop-kind.kind-index < length c.args.kinds.now = c.loop-kind-test.true in
    let long : length c.loop-kind.slots.entries ≡ c.loop-kind.kind-index =
    zeros_length _ _ c.loop-kind.invariant ∙ length-take-le c.loop-kind.kind-index c.args.kinds.now (omega arith) in
    let at : c.len-place.result ≡ length c.loop-kind.slots.entries = c.len-place.ensures.len in
    let absent : lookup (is_place c.len-place.result) c.loop-kind.slots.entries ≡ None =
    none_yet c.len-place.result 0 c.loop-kind.slots.entries (omega arith) c.loop-kind.invariant.places in
    let entries = c.in-Ok.ensures.entries ∙ insert_entry-new is_place c.loop-kind.slots c.len-place.result c.zero.result absent in
    subst (λ kinds. AreZeros kinds c.insert.new.self.entries) (sym (take_more c.args.kinds.now c.loop-kind.kind-index slots.Bool within))
    (subst (AreZeros _) (sym entries) (one_more _ _ _ c.len-place.result c.zero.result c.loop-kind.invariant at c.zero.ensures.kind c.zero.ensures.number))

pub invariant_of-result : goal.invariant_of-result
invariant_of-result c =
    let entries = c.loop-kind.slots.entries in
    let h = c.loop-kind.invariant in
    let whole : take c.loop-kind.kind-index c.args.kinds.now ≡ c.args.kinds.now = take_all c.loop-kind.kind-index c.args.kinds.now c.loop-kind-test.false in
    let long : length entries ≡ length c.args.kinds.now = zeros_length _ _ h ∙ ap length whole in
    record {
      places = h.places;
      ranges = subst (λ kinds. AreInRange kinds (numbers_in entries)) (sym (h.kinds_are ∙ whole))
          (subst (AreInRange c.args.kinds.now) (sym (h.zero ∙ ap (λ n. replicate n (pos 0)) long)) (zeros_fit c.args.kinds.now));
    }
