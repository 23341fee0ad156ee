-- A changed machine represents the store that is carried over.
use Rattle.wc_model.proofs.Common.{◌≡◌, ◌-◌, List, ℤ, length, ap, sym, ◌∙◌, subst, arith, rules, refl, length-map}
use Rattle.wc_cost.specs.LoadedTexts.{LoadedText}
use Rattle.wc_text_flat.specs.Contents.{AreContents, frame_of_text}
use Rattle.wc_machine.proofs.Carrying.{before_later, contents_carried}
use Rattle.wc_machine.proofs.FirstPlaces.{last_bound}
use Rattle.wc_machine.proofs.Scanning.{has_a_unit}
use Rattle.wc_machine.proofs.machine.Machine.change.Goals as goal
use Rattle.wc_machine.specs.Machines.{AreCarried, IsMachineSound, MachineState, RepresentsText, machine_view, text_of}
use Rattle.wc_model.specs.Definitions.{carried, content_number, first_numbers, slot_kind_of, slot_kinds, initial_of, Store, Text, text_view, IsProgramLast}
use Rattle.wc_laws_language.proofs.Carrying.{carried_holds}
use Rattle.wc_laws_language.specs.{AreFirst, SameSlots}

-- the carried numbers are the contents of the carried store
held : (old new : Text) → IsProgramLast old → IsProgramLast new → (store : Store) → SameSlots (initial_of old) store → (numbers : List ℤ) → AreContents (frame_of_text old) store numbers → (first all : List ℤ) → first ≡ first_numbers (frame_of_text new) →
    AreCarried old new numbers first all → AreContents (frame_of_text new) (carried old store new) all
held old new old_last new_last store same numbers contents first all is are = contents_carried old new old_last new_last store same numbers contents all (subst (λ ns. AreCarried old new numbers ns all) is are)

pub first_store-requires-clause-count : goal.first_store-requires-clause-count
first_store-requires-clause-count g c =
    let frame = frame_of_text (text_view c.args.loaded.source) in
    ap length c.initials.ensures.numbers ∙ length-map frame (λ entry. content_number entry.1) ∙ sym (ap length c.kinds.ensures.kinds ∙ length-map frame (λ entry. slot_kind_of entry.1))

pub first_store-requires-clause-capacity : goal.first_store-requires-clause-capacity
first_store-requires-clause-capacity g c = let few = c.kinds.ensures.few in omega (arith, few)

pub returns-in-Err-clause-represents : goal.returns-in-Err-clause-represents
returns-in-Err-clause-represents g c = λ text store represents. tt

pub returns-in-Err-clause-text : goal.returns-in-Err-clause-text
returns-in-Err-clause-text g c = tt

pub returns-in-Err-clause-last : goal.returns-in-Err-clause-last
returns-in-Err-clause-last g c = tt

pub returns-in-Err-clause-unchanged : goal.returns-in-Err-clause-unchanged
returns-in-Err-clause-unchanged g c = refl

pub returns-in-Err-clause-memory : goal.returns-in-Err-clause-memory
returns-in-Err-clause-memory g c = c.in-Err.ensures.memory

pub overflow_sub-units : goal.overflow_sub-units
overflow_sub-units g c =
    let count = c.units-units.ensures.count in
    let sound = c.units-units.ensures.sound in
    let some = has_a_unit sound.read.0 (text_view c.args.loaded.source) sound.read.1 in
    omega (arith, count, some)

pub bound-bound-requires : goal.bound-bound-requires
bound-bound-requires g c =
    let count = c.units-units.ensures.count in
    let codes = c.units-units.ensures.codes in
    let sound = c.units-units.ensures.sound in
    let some = has_a_unit sound.read.0 (text_view c.args.loaded.source) sound.read.1 in
    omega (arith, count, codes, some)

pub carried_over-store-requires-clause-kinds : goal.carried_over-store-requires-clause-kinds
carried_over-store-requires-clause-kinds g c = c.in-Ok.ensures.kinds ∙ c.kinds.ensures.kinds

pub carried_over-store-requires-clause-numbers : goal.carried_over-store-requires-clause-numbers
carried_over-store-requires-clause-numbers g c = ap length (c.in-Ok.ensures.numbers ∙ c.initials.ensures.numbers) ∙ length-map (frame_of_text (text_view c.args.loaded.source)) (λ entry. content_number entry.1)

pub carried_over-store-requires-clause-capacity : goal.carried_over-store-requires-clause-capacity
carried_over-store-requires-clause-capacity g c =
    let same = ap length c.in-Ok.ensures.kinds in
    let few = c.kinds.ensures.few in
    omega (arith, same, few)

pub carried_over-store-requires-clause-old_kinds : goal.carried_over-store-requires-clause-old_kinds
carried_over-store-requires-clause-old_kinds g c =
    subst (λ (l : LoadedText). g.S.Store.slot_kinds c.self.inside.store ≡ slot_kinds (frame_of_text (text_view l.source))) (sym c.text.ensures) c.self.invariant.kinds_are

pub returns-clause-text : goal.returns-clause-text
returns-clause-text g c = ap (λ (l : LoadedText). text_view l.source) c.in-Ok-new.ensures.same

pub returns-clause-last : goal.returns-clause-last
returns-clause-last g c = ap (λ (m : MachineState). m.last) c.self.view_is

pub returns-clause-unchanged : goal.returns-clause-unchanged
returns-clause-unchanged g c = tt

pub returns-clause-memory : goal.returns-clause-memory
returns-clause-memory g c = tt

pub invariant_of-result : goal.invariant_of-result
invariant_of-result g c =
    let old = text_view c.self.inside.loaded.source in
    let text = text_view c.args.loaded.source in
    let sound = c.units-units.ensures.sound in
    let inv = c.self.invariant in
    let kinds = c.carried_over-store.ensures.kinds ∙ c.in-Ok.ensures.kinds in
    subst (λ (loaded : LoadedText). IsMachineSound loaded (g.S.Store.slot_kinds c.carried_over-store.result) (g.S.Store.numbers c.carried_over-store.result) c.self.inside.last c.bound-bound.result) (sym c.in-Ok-new.ensures.same)
    (record {
      sound = sound;
      kinds_are = kinds ∙ c.kinds.ensures.kinds;
      capacity = omega (arith, ap length kinds, c.kinds.ensures.few);
      held = (carried old inv.held.0 text, carried_holds old text inv.held.0 inv.sound.read.1.spelled.order sound.read.1.spelled.order inv.held.1, held old text inv.sound.read.1.spelled.order sound.read.1.spelled.order inv.held.0 inv.held.1 (g.S.Store.numbers c.self.inside.store) inv.held.2 (g.S.Store.numbers c.in-Ok.first) (g.S.Store.numbers c.carried_over-store.result) (c.in-Ok.ensures.numbers ∙ c.initials.ensures.numbers) (subst (λ (l : LoadedText). AreCarried (text_view l.source) (text_view c.args.loaded.source) (g.S.Store.numbers c.self.inside.store) (g.S.Store.numbers c.in-Ok.first) (g.S.Store.numbers c.carried_over-store.result)) c.text.ensures c.carried_over-store.ensures.numbers));
      before = c.carried_over-store.ensures.moments c.self.inside.last (before_later 0 c.self.inside.last (g.S.Store.slot_kinds c.in-Ok.first) (g.S.Store.numbers c.in-Ok.first) (omega arith) c.in-Ok.ensures.moments) inv.before;
      bounded = last_bound text (c.units-units.result - 1) c.bound-bound.result (omega (arith, c.units-units.ensures.count, has_a_unit sound.read.0 text sound.read.1)) c.bound-bound.ensures;
      fits = search rules;
    })

pub returns-clause-represents : goal.returns-clause-represents
returns-clause-represents g c = λ text store represents.
    let here = text_view c.self.inside.loaded.source in
    let new = text_view c.args.loaded.source in
    let same : text ≡ here = sym represents.same_text ∙ ap (λ (m : MachineState). text_of m) (sym c.self.view_is) in
    let slots : SameSlots (initial_of here) store = subst (λ t. SameSlots (initial_of t) store) same represents.slots in
    let contents : AreContents (frame_of_text here) store (g.S.Store.numbers c.self.inside.store) =
    subst (λ ns. AreContents (frame_of_text here) store ns) (ap (λ (m : MachineState). m.numbers) (sym c.self.view_is)) (subst (λ t. AreContents (frame_of_text t) store c.args.self.numbers) same represents.contents) in
    subst (λ (loaded : LoadedText). RepresentsText (machine_view loaded (g.S.Store.numbers c.carried_over-store.result) c.self.inside.last) new (carried text store new)) (sym c.in-Ok-new.ensures.same)
    (record {
      same_text = refl;
      slots = subst (λ t. SameSlots (initial_of new) (carried t store new)) (sym same) (carried_holds here new store c.self.invariant.sound.read.1.spelled.order c.units-units.ensures.sound.read.1.spelled.order slots);
      contents = subst (λ t. AreContents (frame_of_text new) (carried t store new) (g.S.Store.numbers c.carried_over-store.result)) (sym same) (held here new c.self.invariant.sound.read.1.spelled.order c.units-units.ensures.sound.read.1.spelled.order store slots (g.S.Store.numbers c.self.inside.store) contents (g.S.Store.numbers c.in-Ok.first) (g.S.Store.numbers c.carried_over-store.result) (c.in-Ok.ensures.numbers ∙ c.initials.ensures.numbers) (subst (λ (l : LoadedText). AreCarried (text_view l.source) (text_view c.args.loaded.source) (g.S.Store.numbers c.self.inside.store) (g.S.Store.numbers c.in-Ok.first) (g.S.Store.numbers c.carried_over-store.result)) c.text.ensures c.carried_over-store.ensures.numbers));
    })

pub first_store-requires-clause-first : goal.first_store-requires-clause-first
first_store-requires-clause-first g c = subst (λ ks. AreFirst ks c.initials.result.now) (sym c.kinds.ensures.kinds) c.initials.ensures.first
