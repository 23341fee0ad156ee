use Rattle.std.proofs.Common.{◌∙◌}
use Rattle.wc_diag_places.proofs.Breaking.{same_broken}
use Rattle.wc_diag_places.proofs.calls.offending_in_list.Goals as goal
use Rattle.wc_diag_places.specs.Arguments.{argument_count, argument_from}
use Rattle.wc_diag_places.specs.Lists.{item_at}
use Rattle.wc_diag_places.specs.declared.arguments.BrokenItem.{BrokenItem}

pub returns-in_default : goal.returns-in_default
returns-in_default c = λ scope type line k arguments is num listed first.
    let broken : BrokenItem = record { item = item_at c.args.tokens.now k; number = c.args.number } in
    absurd (c.in_default.not-Some broken (c.in_ok-broken.ensures scope type line k c.args.number arguments is num listed first))

pub returns-then-broken-number : goal.returns-then-broken-number
returns-then-broken-number c = λ scope type line k arguments is num listed first.
    let same =
    same_broken c.in_ok-broken.field-0 c.in-Some.broken (item_at c.args.tokens.now k) c.args.number c.in-Some.is
    (c.in_ok-broken.ensures scope type line k c.args.number arguments is num listed first) in
    absurd (c.if-broken-number.true same.1)

pub returns : goal.returns
returns c = λ scope type line k arguments is num listed first.
    let same =
    same_broken c.in_ok-broken.field-0 c.in-Some.broken (item_at c.args.tokens.now k) c.args.number c.in-Some.is
    (c.in_ok-broken.ensures scope type line k c.args.number arguments is num listed first) in
    (c.offending_argument.ensures.from ∙ (λ i. argument_from (same.1 i) (same.0 i)), c.offending_argument.ensures.count ∙ (λ i. argument_count (same.1 i) (same.0 i)))
