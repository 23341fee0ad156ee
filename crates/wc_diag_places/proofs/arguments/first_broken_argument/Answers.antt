use Rattle.std.proofs.Common.{Some, arith}
use Rattle.wc_diag_places.proofs.Breaking.{all_looked_at, at_first, found_first, one_further, past_end}
use Rattle.wc_diag_places.proofs.arguments.first_broken_argument.Goals as goal

pub loop-number-init : goal.loop-number-init
loop-number-init c = at_first c.args.tables.now c.args.unit c.args.declared c.args.tokens.now c.new-names.result c.item_after-item.result c.new-names.ensures c.item_after-item.ensures

pub returns-then-item-end : goal.returns-then-item-end
returns-then-item-end c = λ scope type line k number arguments is num listed first.
    let l = c.loop-number in
    absurd (past_end c.args.tables.now c.args.unit c.args.declared c.args.tokens.now l.names l.item l._number l.invariant scope type line k number arguments
    (omega (arith, c.if-item-end.true, c.list_end-end.ensures)) is num listed first)

pub returns-in-Some : goal.returns-in-Some
returns-in-Some c = λ scope type line k number arguments is num listed first.
    let l = c.loop-number in
    let one =
    found_first c.args.tables.now c.args.unit c.args.declared c.args.tokens.now l.names l.item l._number l.invariant c.in_ok-found.found c.in-Some.number c.in-Some.is
    c.in_ok-found.ensures.rule scope type line k number arguments is num listed first in
    (λ i. Some (record { item = one.1 i; number = one.0 i }))

pub loop-number-preserved : goal.loop-number-preserved
loop-number-preserved c =
    let l = c.loop-number in
    one_further c.args.tables.now c.args.unit c.args.declared c.args.tokens.now l.names l.item l._number l.invariant c.in_ok-found.found c.in_ok-found.ensures.rule
    c.broken_rule.new.names c.item_after-item-in-loop-number.result c.in_default.is (c.in_ok-found.ensures.held c.in_default.is) c.item_after-item-in-loop-number.ensures

pub returns : goal.returns
returns c = λ scope type line k number arguments is num listed first.
    let l = c.loop-number in
    absurd (all_looked_at c.args.tables.now c.args.unit c.args.declared c.args.tokens.now l.names l.item l._number l.invariant (omega (arith, c.loop-number-test.false, c.list_end-end.ensures))
    scope type line k number arguments is num listed first)
