-- The outputs are the numbers at their places.
use Rattle.std.proofs.Common.{◌≡◌, ap, sym, ◌∙◌, subst}
use Rattle.wc_text_flat.proofs.Outputs.{outputs_are_numbers}
use Rattle.wc_text_flat.specs.Contents.{frame_of_text, AreContents}
use Rattle.wc_machine.proofs.FirstPlaces.{AreFirst, first_places, same_outputs}
use Rattle.wc_machine.proofs.machine.Machine.outputs.Goals as goal
use Rattle.wc_machine.specs.Machines.{MachineState, text_of}
use Rattle.wc_model.specs.Definitions.{OutputBit, OutputWord, initial_of, bit_of, word_of, output_bits, output_words, Direct, value_at, text_view}
use Rattle.wc_laws_language.specs.Typing.{SameSlots}

pub read_outputs-requires-clause-bits : goal.read_outputs-requires-clause-bits
read_outputs-requires-clause-bits g c =
    let inv = c.self.invariant in
    (subst (λ k. AreFirst k) (sym inv.kinds_are) (first_places inv.sound.read.0 (text_view c.self.inside.loaded.source) inv.sound.read.1)).bits

pub read_outputs-requires-clause-words : goal.read_outputs-requires-clause-words
read_outputs-requires-clause-words g c =
    let inv = c.self.invariant in
    (subst (λ k. AreFirst k) (sym inv.kinds_are) (first_places inv.sound.read.0 (text_view c.self.inside.loaded.source) inv.sound.read.1)).words

pub returns : goal.returns
returns g c = λ text store represents.
    let inv = c.self.invariant in
    let here = text_view c.self.inside.loaded.source in
    let same : text ≡ here = sym represents.same_text ∙ ap (λ (m : MachineState). text_of m) (sym c.self.view_is) in
    let slots : SameSlots (initial_of here) store = subst (λ t. SameSlots (initial_of t) store) same represents.slots in
    let contents : AreContents (frame_of_text here) store (g.S.Store.numbers c.self.inside.store) =
    subst (λ ns. AreContents (frame_of_text here) store ns) (ap (λ (m : MachineState). m.numbers) (sym c.self.view_is)) (subst (λ t. AreContents (frame_of_text t) store c.args.self.now.numbers) same represents.contents) in
    let both = outputs_are_numbers inv.sound.read.0 here inv.sound.read.1 store slots (g.S.Store.numbers c.self.inside.store) contents in
    let bits = c.read_outputs.ensures.bits (λ i. bit_of (value_at store (Direct (OutputBit i)))) both.0 in
    let words = c.read_outputs.ensures.words (λ i. word_of (value_at store (Direct (OutputWord i)))) both.1 in
    same_outputs c.read_outputs.result (output_bits store) (output_words store) bits words
