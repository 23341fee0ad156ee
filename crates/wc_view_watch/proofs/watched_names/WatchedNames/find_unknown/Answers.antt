use Rattle.std.proofs.Common.{◌+◌, ◌∙◌, Bor, List, ap, arith, false, length, sym, true}
use Rattle.std.specs.Prelude.{ℕ, not, option_map}
use Rattle.wc_view_watch.proofs.LookUps.{at_index, found_from, got_there, is_known_at, start_more, start_within}
use Rattle.wc_view_watch.proofs.watched_names.WatchedNames.find_unknown.Goals as goal
use Rattle.wc_view_watch.specs.Plans.{is_unknown, names_in}

pub returns-then-not-is_known : goal.returns-then-not-is_known
returns-then-not-is_known c = λ text next looked.
    let names = c.args.self.now in
    let list = c.args.list.now in
    let index = c.loop-index.index in
    let there = at_index (λ (one : Bor (List ℕ)). one.now) names.names.items index c.in-Some.name.now (sym looked.listed)
    (got_there index c.in-Some.name.now c.deref.ensures.value c.in-Some.ensures.lookup.3.0 c.in-Some.ensures.lookup.1) in record {
      index = index;
      is = c.loop-index.invariant.known text next looked
          ∙ found_from (is_unknown text next) (names_in list) index c.in-Some.name.now.now true there
          (sym (is_known_at names list text next index c.in-Some.name.now.now looked there) ∙ ap not (sym c.is_known.ensures ∙ c.if-not-is_known.true));
      start = c.loop-index.invariant.start looked.listed;
      count = ap (option_map length) there;
    }

pub loop-index-preserved : goal.loop-index-preserved
loop-index-preserved c =
    let names = c.args.self.now in
    let list = c.args.list.now in
    let index = c.loop-index.index in
    let name_there = got_there index c.in-Some.name.now c.deref.ensures.value c.in-Some.ensures.lookup.3.0 c.in-Some.ensures.lookup.1 in record {
      start = λ listed.
          let there = at_index (λ (one : Bor (List ℕ)). one.now) names.names.items index c.in-Some.name.now (sym listed) name_there in
          omega (
            arith,
            c.saturating_add-start.ensures,
            c.saturating_add.ensures,
            c.loop-index.invariant.start listed,
            start_more list index c.in-Some.name.now.now there,
            start_within list (index + 1),
            c.count_bytes-most.ensures.count,
            c.count_bytes-most.ensures.few,
          );
      known = λ text next looked.
          let there = at_index (λ (one : Bor (List ℕ)). one.now) names.names.items index c.in-Some.name.now (sym looked.listed) name_there in
          c.loop-index.invariant.known text next looked
          ∙ found_from (is_unknown text next) (names_in list) index c.in-Some.name.now.now false there
          (sym (is_known_at names list text next index c.in-Some.name.now.now looked there) ∙ ap not (sym c.is_known.ensures ∙ c.if-not-is_known.false));
    }
