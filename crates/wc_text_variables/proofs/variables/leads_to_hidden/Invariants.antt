use Rattle.std.proofs.Common.{drop, map}
use Rattle.wc_model.specs.Definitions.{name_of, Path, text_view}
use Rattle.wc_text_variables.proofs.Walks.{Walks}
use Rattle.wc_text_variables.specs.Names.{is_hidden}
use Rattle.wc_text_variables.proofs.variables.leads_to_hidden.Given as goal

-- the names before this one have led to this unit
abbrev pub invariant-loop-index : goal.invariant-loop-index
invariant-loop-index l =
    Walks (text_view l.fn.loaded.source) l.unit (map (λ name. name_of name.now) (drop l.index l.fn.names)) (is_hidden (text_view l.fn.loaded.source) (Path (map (λ name. name_of name.now) l.fn.names)))
