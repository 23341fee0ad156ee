-- A scan is the run of the program's flat code, and what is shown of it is what is seen of the text.
use Rattle.wc_model.proofs.Common.{◌≡◌, ◌+◌, ◌-◌, ◌≤◌, length, refl, ap, sym, ◌∙◌, subst, arith, length-map}
use Rattle.wc_text_flat.specs.Contents.{frame_of_text, AreContents}
use Rattle.wc_machine.proofs.FirstPlaces.{AreFirst, first_places}
use Rattle.wc_machine.proofs.Scanning.{has_a_unit, machine_runs, later, short_run, ran_is}
use Rattle.wc_machine.proofs.machine.Machine.observe_scan.Goals as goal
use Rattle.wc_machine.proofs.SeenScans.{scan_is_seen}
use Rattle.wc_machine.specs.{MachineState, Leaves, machine_view, text_of, IsScanShown}
use Rattle.wc_model.specs.Definitions.{slot_kind_of, IsProgramBound, initial_of, scan_of, text_view}
use Rattle.wc_laws_language.specs.Typing.{SameSlots}

pub copy_image-requires-clause-weights : goal.copy_image-requires-clause-weights
copy_image-requires-clause-weights g c =
    let inv = c.self.invariant in
    (subst (λ k. AreFirst k) (sym inv.kinds_are) (first_places inv.sound.read.0 (text_view c.self.inside.loaded.source) inv.sound.read.1)).weights

pub copy_image-requires-clause-inputs : goal.copy_image-requires-clause-inputs
copy_image-requires-clause-inputs g c =
    let inv = c.self.invariant in
    (subst (λ k. AreFirst k) (sym inv.kinds_are) (first_places inv.sound.read.0 (text_view c.self.inside.loaded.source) inv.sound.read.1)).inputs

pub copy_image-requires-clause-within : goal.copy_image-requires-clause-within
copy_image-requires-clause-within g c =
    let inv = c.self.invariant in
    let text = text_view c.self.inside.loaded.source in
    let many = (first_places inv.sound.read.0 text inv.sound.read.1).many in
    let kinds = length-map (frame_of_text text) (λ entry. slot_kind_of entry.1) in
    let count = inv.held.2.count in
    omega (arith, many, kinds, count)

pub copy_image-requires-clause-capacity : goal.copy_image-requires-clause-capacity
copy_image-requires-clause-capacity g c = c.self.invariant.capacity

pub overflow_sub-program : goal.overflow_sub-program
overflow_sub-program g c =
    let inv = c.self.invariant in
    let count = c.units-program.ensures.count in
    let some = has_a_unit inv.sound.read.0 (text_view c.self.inside.loaded.source) inv.sound.read.1 in
    omega (arith, count, some)

pub run-steps-requires-clause-unit : goal.run-steps-requires-clause-unit
run-steps-requires-clause-unit g c =
    let inv = c.self.invariant in
    let count = c.units-program.ensures.count in
    let codes = c.units-program.ensures.codes in
    let some = has_a_unit inv.sound.read.0 (text_view c.self.inside.loaded.source) inv.sound.read.1 in
    omega (arith, count, codes, some)

pub run-steps-requires-clause-reach : goal.run-steps-requires-clause-reach
run-steps-requires-clause-reach g c =
    let count = c.units-program.ensures.count in
    let few = c.self.invariant.sound.read.1.within_limits.units in
    omega (arith, count, few)

pub run-steps-requires-clause-depth : goal.run-steps-requires-clause-depth
run-steps-requires-clause-depth g c =
    let count = c.units-program.ensures.count in
    let few = c.self.invariant.sound.read.1.within_limits.units in
    omega (arith, count, few)

pub run-steps-requires-clause-capacity : goal.run-steps-requires-clause-capacity
run-steps-requires-clause-capacity g c = subst (λ k. length k ≤ 65536) (sym c.copy_image.ensures.kinds) c.self.invariant.capacity

pub run-steps-requires-clause-moment : goal.run-steps-requires-clause-moment
run-steps-requires-clause-moment g c = c.requires.in_range

pub returns-clause-last : goal.returns-clause-last
returns-clause-last g c = refl

pub run-steps-requires-clause-there : goal.run-steps-requires-clause-there
run-steps-requires-clause-there g c =
    let inv = c.self.invariant in
    let run = machine_runs c.self.inside.loaded (g.S.Store.slot_kinds c.self.inside.store) (g.S.Store.numbers c.self.inside.store) c.self.inside.last c.self.inside.bound c.self.invariant c.args.image.now c.args.now (c.units-program.result - 1) c.self.inside.bound
    (omega (arith, c.units-program.ensures.count, has_a_unit c.self.invariant.sound.read.0 (text_view c.self.inside.loaded.source) c.self.invariant.sound.read.1)) inv.bounded
    (g.S.Store.slot_kinds c.copy_image.new.store) (g.S.Store.numbers c.copy_image.new.store) c.copy_image.ensures.kinds c.copy_image.ensures.numbers inv.held.0 inv.held.1 inv.held.2 in
    short_run _ run.ran c.self.inside.bound run.is run.within inv.fits

pub run-steps-requires-clause-forward : goal.run-steps-requires-clause-forward
run-steps-requires-clause-forward g c =
    let last : c.self.inside.last ≤ c.args.now = omega (arith, c.requires.not_before, ap (λ (m : MachineState). m.last) c.self.view_is) in
    c.copy_image.ensures.moments c.args.now (later c.self.inside.last c.args.now (g.S.Store.slot_kinds c.self.inside.store) (g.S.Store.numbers c.self.inside.store) last c.self.invariant.before)

pub invariant_of-self : goal.invariant_of-self
invariant_of-self g c =
    let inv = c.self.invariant in
    let text = text_view c.self.inside.loaded.source in
    let run = machine_runs c.self.inside.loaded (g.S.Store.slot_kinds c.self.inside.store) (g.S.Store.numbers c.self.inside.store) c.self.inside.last c.self.inside.bound c.self.invariant c.args.image.now c.args.now (c.units-program.result - 1) c.self.inside.bound
    (omega (arith, c.units-program.ensures.count, has_a_unit c.self.invariant.sound.read.0 (text_view c.self.inside.loaded.source) c.self.invariant.sound.read.1)) inv.bounded
    (g.S.Store.slot_kinds c.copy_image.new.store) (g.S.Store.numbers c.copy_image.new.store) c.copy_image.ensures.kinds c.copy_image.ensures.numbers inv.held.0 inv.held.1 inv.held.2 in
    let both = ran_is _ run.ran (g.S.Store.numbers c.run-steps.new.store) c.run-steps.result run.is c.run-steps.ensures.ran in
    let same = c.run-steps.ensures.kinds ∙ c.copy_image.ensures.kinds in
    record {
      sound = inv.sound;
      kinds_are = same ∙ inv.kinds_are;
      capacity = subst (λ k. length k ≤ 65536) (sym same) inv.capacity;
      held = (run.store, run.slots, subst (λ ns. AreContents (frame_of_text text) run.store ns) both.0 run.contents);
      before = c.run-steps.ensures.moments;
      bounded = inv.bounded;
      fits = inv.fits;
    }

pub returns-clause-means : goal.returns-clause-means
returns-clause-means g c = λ text store represents.
    let here = text_view c.self.inside.loaded.source in
    let same : text ≡ here = sym represents.same_text ∙ ap (λ (m : MachineState). text_of m) (sym c.self.view_is) in
    let slots : SameSlots (initial_of here) store = subst (λ t. SameSlots (initial_of t) store) same represents.slots in
    let contents : AreContents (frame_of_text here) store (g.S.Store.numbers c.self.inside.store) =
    subst (λ ns. AreContents (frame_of_text here) store ns) (ap (λ (m : MachineState). m.numbers) (sym c.self.view_is)) (subst (λ t. AreContents (frame_of_text t) store c.args.self.now.numbers) same represents.contents) in
    let run = machine_runs c.self.inside.loaded (g.S.Store.slot_kinds c.self.inside.store) (g.S.Store.numbers c.self.inside.store) c.self.inside.last c.self.inside.bound c.self.invariant c.args.image.now c.args.now (c.units-program.result - 1) c.self.inside.bound
    (omega (arith, c.units-program.ensures.count, has_a_unit c.self.invariant.sound.read.0 (text_view c.self.inside.loaded.source) c.self.invariant.sound.read.1)) c.self.invariant.bounded
    (g.S.Store.slot_kinds c.copy_image.new.store) (g.S.Store.numbers c.copy_image.new.store) c.copy_image.ensures.kinds c.copy_image.ensures.numbers store slots contents in
    let both = ran_is _ run.ran (g.S.Store.numbers c.run-steps.new.store) c.run-steps.result run.is c.run-steps.ensures.ran in
    let after = machine_view c.self.inside.loaded (g.S.Store.numbers c.run-steps.new.store) c.args.now in
    subst (λ t. Leaves after t c.run-steps.result (scan_of t store c.args.image.now c.args.now)) (sym same)
    (subst (λ n. Leaves after here n (scan_of here store c.args.image.now c.args.now)) both.1 (run.leaves after refl (sym both.0)))

pub returns-clause-within : goal.returns-clause-within
returns-clause-within g c = λ n longest.
    let inv = c.self.invariant in
    let bounded : IsProgramBound (text_view c.self.inside.loaded.source) n = subst (λ t. IsProgramBound t n) (ap (λ (m : MachineState). text_of m) (sym c.self.view_is)) longest in
    let run = machine_runs c.self.inside.loaded (g.S.Store.slot_kinds c.self.inside.store) (g.S.Store.numbers c.self.inside.store) c.self.inside.last c.self.inside.bound c.self.invariant c.args.image.now c.args.now (c.units-program.result - 1) n
    (omega (arith, c.units-program.ensures.count, has_a_unit c.self.invariant.sound.read.0 (text_view c.self.inside.loaded.source) c.self.invariant.sound.read.1)) bounded
    (g.S.Store.slot_kinds c.copy_image.new.store) (g.S.Store.numbers c.copy_image.new.store) c.copy_image.ensures.kinds c.copy_image.ensures.numbers inv.held.0 inv.held.1 inv.held.2 in
    let both = ran_is _ run.ran (g.S.Store.numbers c.run-steps.new.store) c.run-steps.result run.is c.run-steps.ensures.ran in
    omega (arith, run.within, both.1)

pub returns-clause-shown : goal.returns-clause-shown
returns-clause-shown g c = λ text store represents.
    let here = text_view c.self.inside.loaded.source in
    let same : text ≡ here = sym represents.same_text ∙ ap (λ (m : MachineState). text_of m) (sym c.self.view_is) in
    let slots : SameSlots (initial_of here) store = subst (λ t. SameSlots (initial_of t) store) same represents.slots in
    let contents : AreContents (frame_of_text here) store (g.S.Store.numbers c.self.inside.store) =
    subst (λ ns. AreContents (frame_of_text here) store ns) (ap (λ (m : MachineState). m.numbers) (sym c.self.view_is)) (subst (λ t. AreContents (frame_of_text t) store c.args.self.now.numbers) same represents.contents) in
    let n : c.units-program.result - 1 + 1 ≡ length (text_view c.self.inside.loaded.source) = omega (arith, c.units-program.ensures.count, has_a_unit c.self.invariant.sound.read.0 (text_view c.self.inside.loaded.source) c.self.invariant.sound.read.1) in
    subst (λ t. IsScanShown (g.O.LineObserver.is_shown c.args.observer.now c.run-steps.new.observer) t store c.args.image.now c.args.now) (sym same)
    (record {
      lines = _;
      are_shown = c.run-steps.ensures.shown;
      seen = scan_is_seen c.self.inside.loaded (g.S.Store.slot_kinds c.self.inside.store) (g.S.Store.numbers c.self.inside.store) c.self.inside.last c.self.inside.bound c.self.invariant c.args.image.now c.args.now (c.units-program.result - 1) n
          (g.S.Store.slot_kinds c.copy_image.new.store) (g.S.Store.numbers c.copy_image.new.store) c.copy_image.ensures.kinds c.copy_image.ensures.numbers store slots contents _ refl;
    })
