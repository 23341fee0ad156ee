use Rattle.wc_model.proofs.Common.{rules, tests, map_from_collect, YieldsList-from_slice_split}
use Rattle.wc_text_variables.proofs.variables.parts_of.Goals as goal

pub returns : goal.returns
returns c =
    map_from_collect c.collect.result c.collect.ensures.ran
    (YieldsList-from_slice_split _ _ c.args.name.now c.split.ensures.rest c.split.ensures.done c.split.ensures.closure (λ x r q k. search (rules, tests)))
