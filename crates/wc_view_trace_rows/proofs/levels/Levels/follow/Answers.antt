use Rattle.wc_model.proofs.Common.{refl, with_item}
use Rattle.wc_view_trace_rows.proofs.Bodies.{after_is, left_is}
use Rattle.wc_view_trace_rows.specs.Levels.{levels_view}
use Rattle.wc_view_trace_rows.proofs.levels.Levels.follow.Goals as goal

pub returns-clause-follows : goal.returns-clause-follows
returns-clause-follows c =
    let legend = c.args.legend.now in
    let seen = c.args.seen.now in
    let levels = levels_view c.args.self.now in
    let bodies = c.go_to.new.self.levels.items in
    after_is legend seen levels bodies (with_item c.go_to.new.self.levels seen.depth c.pass.new.self).items c.pass.new.self c.in_ok-go_to.ensures.goes
    (left_is legend seen levels bodies c.index_mut-level.result.now c.pass.new.self c.in_ok-go_to.ensures.there c.index_mut-level.ensures.value c.in_ok-go_to.ensures.goes
    c.in_ok-pass.ensures.passes) refl
