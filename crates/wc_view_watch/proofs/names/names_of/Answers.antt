use Rattle.wc_model.proofs.Common.{rules, tests, map_from_collect, YieldsList-from_slice_split}
use Rattle.std.specs.Prelude.{Ok}
use Rattle.wc_view_watch.proofs.names.names_of.Goals as goal

pub returns-in-Ok-clause-names : goal.returns-in-Ok-clause-names
returns-in-Ok-clause-names c =
    map_from_collect {E = Unit {0}} (Ok c.in-Ok.names) c.in-Ok.ensures.ran
    (YieldsList-from_slice_split _ _ c.args.list.now c.split.ensures.rest c.split.ensures.done c.split.ensures.closure (λ x r q k. search (rules, tests)))
