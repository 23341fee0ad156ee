-- The first 25 numbers are those of the image.
use Rattle.wc_model.proofs.Common.{◌≡◌, ◌+◌, ◌++◌, map, drop, refl, ap, sym, ◌∙◌, subst, arith, pos, true, zero-add, slice_get, slice_index_or, drop-drop}
use Rattle.wc_text_flat.specs.NumberBlocks.{is_slot}
use Rattle.wc_execution.proofs.image.copy_image.Goals as goal
use Rattle.wc_model.specs.Definitions.{numbers_below, bit_number, is_bit_set}
use Rattle.wc_model.specs.declared.kind.SlotKind.TheVariants as slots

pub copy_bits-requires-clause-slots : goal.copy_bits-requires-clause-slots
copy_bits-requires-clause-slots g c = λ i below.
    subst (λ kinds. is_slot slots.Bool (slice_get kinds (16 + i)) ≡ true) (sym c.copy_inputs.ensures.kinds)
    (subst (λ k. is_slot slots.Bool (slice_get (g.S.Store.slot_kinds c.args.store.now) k) ≡ true) (zero-add (16 + i)) (c.requires.inputs (16 + i) (omega (arith, below))))

pub returns-clause-numbers : goal.returns-clause-numbers
returns-clause-numbers g c =
    let old = g.S.Store.numbers c.args.store.now in
    let inputs = map (λ i. bit_number (is_bit_set c.args.image.now.inputs i)) (numbers_below 16) in
    let status = map (λ i. bit_number (is_bit_set c.from.result i)) (numbers_below 6) in
    let weights = map (λ i. slice_index_or c.args.image.now.weights i (pos 0)) (numbers_below 3) in
    let first = c.copy_inputs.ensures.numbers in
    let second = c.copy_bits.ensures.numbers inputs (drop 16 old) refl first in
    let third = c.copy_weights.ensures.numbers (inputs ++ status) (drop 6 (drop 16 old)) refl second in
    third ∙ ap (λ xs. inputs ++ status ++ weights ++ xs) (ap (drop 3) (drop-drop 6 16 old) ∙ drop-drop 3 22 old)
    ∙ ap (λ n. inputs ++ map (λ i. bit_number (is_bit_set n i)) (numbers_below 6) ++ weights ++ drop 25 old) c.from.ensures
