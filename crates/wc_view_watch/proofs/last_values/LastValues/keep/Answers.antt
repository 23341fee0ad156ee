use Rattle.std.proofs.Common.{◌∙◌, ◌++◌, Some, ap}
use Rattle.wc_view_watch.proofs.last_values.LastValues.keep.Goals as goal
use Rattle.wc_view_watch.specs.{differ, values_in, kept_values}

pub returns-clause-differ : goal.returns-clause-differ
returns-clause-differ c = λ list text next store looked represents.
    c.differs-differs.ensures
    ∙ ap (λ items. differ (kept_values c.args.self.now) (Some items))
    (c.in_ok-put_values.ensures.puts list text next store looked represents ∙ ap (λ line. line ++ values_in list text store) c.clear.ensures.items)

pub returns-clause-keeps : goal.returns-clause-keeps
returns-clause-keeps c = λ list text next store looked represents.
    ap (λ values. Some values.items) c.swap.ensures.y_after
    ∙ ap (λ items. Some items)
    (c.in_ok-put_values.ensures.puts list text next store looked represents ∙ ap (λ line. line ++ values_in list text store) c.clear.ensures.items)
