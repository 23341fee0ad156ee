use Rattle.std.proofs.Common.{rules, ◌≡◌, ◌++◌}
use Rattle.wc_names.proofs.FirstSlots.{first_joined}
use Rattle.wc_names.proofs.frame.append.Goals as goal

pub returns-clause-first : goal.returns-clause-first
returns-clause-first c = λ first held.
    let old = c.args.frame.now in
    let more = c.args.more.now in
    let kinds : c.extend_from_slice.new.self.items ≡ old.kinds.items ++ more.kinds.items = search rules in
    let numbers : c.extend_from_slice-2.new.self.items ≡ old.initials.items ++ more.initials.items = search rules in
    first_joined old.kinds.items more.kinds.items c.extend_from_slice.new.self.items old.initials.items more.initials.items c.extend_from_slice-2.new.self.items kinds numbers first held
