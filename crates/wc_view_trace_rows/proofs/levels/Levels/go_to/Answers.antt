use Rattle.std.proofs.Common.{◌≡◌, ◌∙◌, ◌+◌, ◌-◌, ◌++◌, ◌∷◌, [], None, ap, arith, length, map, refl, replicate, reverse, rules}
use Rattle.std.proofs.lemmas.List.{length-append, map-append}
use Rattle.wc_view_trace_rows.proofs.Bodies.{gone, one_started}
use Rattle.wc_view_trace_rows.specs.Levels.{fresh, level_view}
use Rattle.wc_view_trace_rows.specs.declared.levels.BodyLevel.{BodyLevel}
use Rattle.wc_view_trace_rows.proofs.levels.Levels.go_to.Goals as goal

pub loop-level-preserved : goal.loop-level-preserved
loop-level-preserved c =
    let items = c.loop-level.self.levels.items in
    let level : BodyLevel = record { kind = None; put_by = c.new.result; items = 0 } in
    let pushed : c.push.new.self.items ≡ items ++ level ∷ [] = search (rules) in
    let begins : map level_view c.push.new.self.items ≡ map level_view items ++ fresh ∷ [] =
    ap (map level_view) pushed ∙ map-append level_view items (level ∷ [])
    ∙ ap (λ l. map level_view items ++ record { kind = None; put_by = reverse l; items = 0 } ∷ []) c.new.ensures.items in
    record {
      reached = omega (arith, ap length pushed, length-append items (level ∷ []), c.loop-level.invariant.reached);
      within = omega arith;
      from = omega arith;
      started = one_started level_view fresh c.loop-level._level (length c.truncate.new.self.items) c.truncate.new.self.items (map level_view items) (map level_view c.push.new.self.items)
          c.loop-level.invariant.from begins c.loop-level.invariant.started;
    }

pub returns-clause-goes : goal.returns-clause-goes
returns-clause-goes c =
    let all : c.loop-level._level ≡ c.args.depth + 1 = omega arith in
    let cut = c.truncate.new.self.items in
    gone level_view fresh c.args.depth (c.args.depth + 1) c.args.self.now.levels.items cut c.loop-level.self.levels.items refl c.truncate.ensures.items
    (c.loop-level.invariant.started ∙ ap (λ n. map level_view cut ++ replicate (n - length cut) fresh) all)
