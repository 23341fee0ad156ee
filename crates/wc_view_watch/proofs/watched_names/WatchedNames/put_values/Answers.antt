use Rattle.wc_model.proofs.Common.{◌≡◌, ◌≤◌, Bor, List, ap, arith, length, rules, sym, length-map}
use Rattle.std.specs.Prelude.{ℕ}
use Rattle.wc_text_variables.specs.Names.{variable_named}
use Rattle.wc_view_watch.proofs.LookUps.{all_names, at_index, got_there, one_name_more, same_meaning}
use Rattle.wc_view_watch.proofs.watched_names.WatchedNames.put_values.Goals as goal
use Rattle.wc_view_watch.specs.Plans.{names_in, value_text}

pub loop-index-preserved : goal.loop-index-preserved
loop-index-preserved c = λ list text next store looked represents.
    let names = c.args.self.now in
    let index = c.loop-index.index in
    let there = at_index (λ (one : Bor (List ℕ)). one.now) names.names.items index c.in-Some.name.now (sym looked.listed)
    (got_there index c.in-Some.name.now c.deref.ensures.value c.in-Some.ensures.lookup.3.0 c.in-Some.ensures.lookup.1) in
    one_name_more (value_text text store) (names_in list) index c.in-Some.name.now.now c.args.line.now.items c.loop-index.line.items c.put_named.new.line.items there
    (c.loop-index.invariant list text next store looked represents)
    (c.in_ok-put_named.ensures.puts text store represents
    (same_meaning (variable_named text) names.watched.items (names_in list) index c.in-Some.name.now.now c.in-Some-get.watched.now looked.here there
    (got_there index c.in-Some-get.watched.now c.deref-in-loop-index.ensures.value c.in-Some-get.ensures.lookup.3.0 c.in-Some-get.ensures.lookup.1)))

pub returns-clause-puts : goal.returns-clause-puts
returns-clause-puts c = λ list text next store looked represents.
    let names = c.args.self.now.names.items in
    let len : c.len-index-end.result ≡ length names = search rules in
    let past : length (names_in list) ≤ c.loop-index.index = omega (arith, c.loop-index-test.false, len, ap length looked.listed, length-map names (λ (name : Bor (List ℕ)). name.now)) in
    all_names (value_text text store) (names_in list) c.loop-index.index c.args.line.now.items c.loop-index.line.items past (c.loop-index.invariant list text next store looked represents)
