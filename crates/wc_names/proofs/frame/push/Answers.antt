use Rattle.std.proofs.Common.{rules, ◌≡◌, ◌++◌, ◌∷◌, []}
use Rattle.wc_names.proofs.FirstSlots.{first_added}
use Rattle.wc_names.proofs.frame.push.Goals as goal

pub returns-clause-first : goal.returns-clause-first
returns-clause-first c = λ first held.
    let old = c.args.frame.now in
    let kinds : c.push.new.self.items ≡ old.kinds.items ++ c.args.kind ∷ [] = search rules in
    let numbers : c.push-2.new.self.items ≡ old.initials.items ++ c.args.number ∷ [] = search rules in
    first_added old.kinds.items c.push.new.self.items old.initials.items c.push-2.new.self.items c.args.kind c.args.number kinds numbers first held
