-- A new machine represents the store of the declarations.
use Rattle.wc_model.proofs.Common.{◌≡◌, ◌-◌, List, ℤ, length, refl, ap, sym, ◌∙◌, subst, arith, rules, length-map}
use Rattle.wc_cost.specs.LoadedTexts.{LoadedText}
use Rattle.wc_text_flat.proofs.Images.{first_numbers_are_contents}
use Rattle.wc_text_flat.specs.Contents.{frame_of_text, AreContents}
use Rattle.wc_machine.proofs.FirstPlaces.{last_bound}
use Rattle.wc_machine.proofs.Scanning.{has_a_unit}
use Rattle.wc_machine.proofs.machine.Machine.new.Goals as goal
use Rattle.wc_machine.specs.Machines.{IsMachineSound, RepresentsText, machine_view}
use Rattle.wc_model.specs.Definitions.{content_number, first_numbers, slot_kind_of, initial_of, Text, text_view}
use Rattle.wc_laws_language.specs.FirstNumbers.{AreFirst}
use Rattle.wc_laws_language.proofs.Places.{SameSlots-refl}

-- the first numbers are those of the declarations' store
first_held : (text : Text) (numbers : List ℤ) → numbers ≡ first_numbers (frame_of_text text) → AreContents (frame_of_text text) (initial_of text) numbers
first_held text numbers are = subst (λ ns. AreContents (frame_of_text text) (initial_of text) ns) (sym are) (first_numbers_are_contents text)

pub overflow_sub-units : goal.overflow_sub-units
overflow_sub-units g c =
    let count = c.units-units.ensures.count in
    let sound = c.units-units.ensures.sound in
    let some = has_a_unit sound.read.0 (text_view c.args.loaded.source) sound.read.1 in
    omega (arith, count, some)

pub bound-bound-requires : goal.bound-bound-requires
bound-bound-requires g c =
    let count = c.units-units.ensures.count in
    let codes = c.units-units.ensures.codes in
    let sound = c.units-units.ensures.sound in
    let some = has_a_unit sound.read.0 (text_view c.args.loaded.source) sound.read.1 in
    omega (arith, count, codes, some)

pub first_store-requires-clause-count : goal.first_store-requires-clause-count
first_store-requires-clause-count g c =
    let frame = frame_of_text (text_view c.args.loaded.source) in
    ap length c.initials.ensures.numbers ∙ length-map frame (λ entry. content_number entry.1) ∙ sym (ap length c.kinds.ensures.kinds ∙ length-map frame (λ entry. slot_kind_of entry.1))

pub first_store-requires-clause-capacity : goal.first_store-requires-clause-capacity
first_store-requires-clause-capacity g c = let few = c.kinds.ensures.few in omega (arith, few)

pub returns-in-Err-clause-represents : goal.returns-in-Err-clause-represents
returns-in-Err-clause-represents g c = tt

pub returns-in-Err-clause-last : goal.returns-in-Err-clause-last
returns-in-Err-clause-last g c = tt

pub returns-in-Err-clause-memory : goal.returns-in-Err-clause-memory
returns-in-Err-clause-memory g c = c.in-Err.ensures.memory

pub returns-clause-last : goal.returns-clause-last
returns-clause-last g c = refl

pub returns-clause-memory : goal.returns-clause-memory
returns-clause-memory g c = tt

pub invariant_of-result : goal.invariant_of-result
invariant_of-result g c =
    let text = text_view c.args.loaded.source in
    let sound = c.units-units.ensures.sound in
    subst (λ (loaded : LoadedText). IsMachineSound loaded (g.S.Store.slot_kinds c.in-Ok.store) (g.S.Store.numbers c.in-Ok.store) 0 c.bound-bound.result) (sym c.in-Ok-new.ensures.same)
    (record {
      sound = sound;
      kinds_are = c.in-Ok.ensures.kinds ∙ c.kinds.ensures.kinds;
      capacity = omega (arith, ap length c.in-Ok.ensures.kinds, c.kinds.ensures.few);
      held = (initial_of text, SameSlots-refl (initial_of text), first_held text (g.S.Store.numbers c.in-Ok.store) (c.in-Ok.ensures.numbers ∙ c.initials.ensures.numbers));
      before = c.in-Ok.ensures.moments;
      bounded = last_bound text (c.units-units.result - 1) c.bound-bound.result (omega (arith, c.units-units.ensures.count, has_a_unit sound.read.0 text sound.read.1)) c.bound-bound.ensures;
      fits = search rules;
    })

pub returns-clause-represents : goal.returns-clause-represents
returns-clause-represents g c =
    let text = text_view c.args.loaded.source in
    let numbers = g.S.Store.numbers c.in-Ok.store in
    subst (λ (loaded : LoadedText). RepresentsText (machine_view loaded numbers 0) text (initial_of text)) (sym c.in-Ok-new.ensures.same)
    (record { same_text = refl; slots = SameSlots-refl (initial_of text); contents = first_held text numbers (c.in-Ok.ensures.numbers ∙ c.initials.ensures.numbers) })

pub first_store-requires-clause-first : goal.first_store-requires-clause-first
first_store-requires-clause-first g c = subst (λ ks. AreFirst ks c.initials.result.now) (sym c.kinds.ensures.kinds) c.initials.ensures.first
