-- Four more bits are written.
use Rattle.wc_model.proofs.Common.{◌≡◌, ℕ, ℤ, ◌+◌, ◌*◌, ◌≤◌, ◌++◌, true, map, drop, length, sym, ap, ◌∙◌, subst, arith, zero-add, slice_get}
use Rattle.wc_execution.proofs.After.{next_four}
use Rattle.wc_execution.proofs.Bits.{shifted_bit}
use Rattle.wc_execution.proofs.image.copy_inputs.Goals as goal
use Rattle.wc_text_flat.specs.NumberBlocks.{is_slot}
use Rattle.wc_model.specs.Definitions.{numbers_below, bit_number, is_bit_set}
use Rattle.wc_model.specs.declared.kind.SlotKind.TheVariants as slots
use Rattle.wc_store.proofs.Ranges.{same_four}
use Rattle.wc_store.specs.Inside.{with_four}

pub copy_four-requires-clause-slots : goal.copy_four-requires-clause-slots
copy_four-requires-clause-slots g c = λ i below.
    let k = 4 * c.loop-four.four + i in
    subst (λ kinds. is_slot slots.Bool (slice_get kinds k) ≡ true) (sym c.loop-four.invariant.kinds)
    (subst (λ p. is_slot slots.Bool (slice_get (g.S.Store.slot_kinds c.args.store.now) p) ≡ true) (zero-add k) (c.requires.slots k (omega (arith, below, c.loop-four-test.true))))

pub loop-four-preserved : goal.loop-four-preserved
loop-four-preserved g c =
    let f : ℕ → ℤ = λ i. bit_number (is_bit_set c.args.inputs i) in
    let old = g.S.Store.numbers c.args.store.now in
    let at = 4 * c.loop-four.four in
    let below : at + 4 ≤ length old = omega (arith, c.requires.within, c.loop-four-test.true) in
    let further : at + 4 ≡ 4 * (c.loop-four.four + 1) = omega arith in
    let lowest = ap bit_number (shifted_bit c.args.inputs at 0 ∙ ap (is_bit_set c.args.inputs) (omega arith)) in
    record {
      written = c.copy_four.ensures.numbers
          ∙ same_four (g.S.Store.numbers c.loop-four.store) at (f at) (f (at + 1)) (f (at + 2)) (f (at + 3)) _ _ _ _ lowest (ap bit_number (shifted_bit c.args.inputs at 1)) (ap bit_number (shifted_bit c.args.inputs at 2)) (ap bit_number (shifted_bit c.args.inputs at 3))
          ∙ ap (λ ns. with_four ns at (f at) (f (at + 1)) (f (at + 2)) (f (at + 3))) c.loop-four.invariant.written
          ∙ next_four f old at below
          ∙ ap (λ k. map f (numbers_below k) ++ drop k old) further;
      kinds = c.copy_four.ensures.kinds ∙ c.loop-four.invariant.kinds;
      moments = λ now before. c.copy_four.ensures.moments now (c.loop-four.invariant.moments now before);
    }
