-- Four numbers in range are written at places that there are.
use Rattle.wc_model.proofs.Common.{◌≡◌, ◌+◌, length, ap, sym, ◌∙◌, subst, arith, w64, to_z-of_z}
use Rattle.wc_store.proofs.Ranges.{four_length, fours_fit, put_back, same_four, same_length}
use Rattle.wc_store.proofs.slot_store.SlotStoreStore.set_four.Goals as goal
use Rattle.wc_store.specs.Inside.{SlotNumbers, AreInRange, IsInRangeAt, with_four}

pub write_four-requires : goal.write_four-requires
write_four-requires c =
    omega (arith, ap length c.as_mut_slice.ensures.value, same_length _ _ c.self.invariant, ap (λ (s : SlotNumbers). length s.kinds) c.self.view_is, c.requires.places)

-- the numbers that are written
written_is : (c : goal.After-self-1) → c.write_four.new.numbers ≡ with_four c.self.inside.numbers.items c.args.at c.args.a c.args.b c.args.c c.args.d
written_is c =
    c.write_four.ensures
    ∙ same_four _ c.args.at c.args.a c.args.b c.args.c c.args.d _ _ _ _ (to_z-of_z w64 c.args.a c.ranges.a) (to_z-of_z w64 c.args.b c.ranges.b) (to_z-of_z w64 c.args.c c.ranges.c) (to_z-of_z w64 c.args.d c.ranges.d)
    ∙ ap (λ ns. with_four ns c.args.at c.args.a c.args.b c.args.c c.args.d) c.as_mut_slice.ensures.value

pub invariant_of-self : goal.invariant_of-self
invariant_of-self c =
    let kinds = c.self.inside.kinds.items in
    let items = c.self.inside.numbers.items in
    let written = written_is c in
    let long : length c.write_four.new.numbers ≡ c.self.inside.numbers.len = ap length written ∙ four_length items c.args.at c.args.a c.args.b c.args.c c.args.d ∙ omega (arith, c.self.inside.numbers.ok) in
    subst (AreInRange kinds) (sym (put_back c.self.inside.numbers.len c.write_four.new.numbers items long ∙ written))
    (fours_fit kinds items c.args.at c.args.a c.args.b c.args.c c.args.d c.self.invariant
    (subst (λ (s : SlotNumbers). IsInRangeAt s.kinds c.args.at c.args.a) (sym c.self.view_is) c.requires.first)
    (subst (λ (s : SlotNumbers). IsInRangeAt s.kinds (c.args.at + 1) c.args.b) (sym c.self.view_is) c.requires.second)
    (subst (λ (s : SlotNumbers). IsInRangeAt s.kinds (c.args.at + 2) c.args.c) (sym c.self.view_is) c.requires.third)
    (subst (λ (s : SlotNumbers). IsInRangeAt s.kinds (c.args.at + 3) c.args.d) (sym c.self.view_is) c.requires.fourth))

pub returns-clause-numbers : goal.returns-clause-numbers
returns-clause-numbers c =
    let items = c.self.inside.numbers.items in
    let written = written_is c in
    let long : length c.write_four.new.numbers ≡ c.self.inside.numbers.len = ap length written ∙ four_length items c.args.at c.args.a c.args.b c.args.c c.args.d ∙ omega (arith, c.self.inside.numbers.ok) in
    put_back c.self.inside.numbers.len c.write_four.new.numbers items long ∙ written
    ∙ ap (λ (s : SlotNumbers). with_four s.numbers c.args.at c.args.a c.args.b c.args.c c.args.d) c.self.view_is
