use Rattle.std.proofs.Common.{◌≡◌, map, take}
use Rattle.wc_model.specs.Language.Views.{text_view}
use Rattle.wc_text_variables.specs.Names.{variable_named}
use Rattle.wc_view_watch.proofs.names.all_watched.Given as goal

-- what the names so far mean
abbrev pub invariant-loop-name : goal.invariant-loop-name
invariant-loop-name l = l.all.items ≡ map (variable_named (text_view l.fn.loaded.source)) (map (λ name. name.now) (take l.name-index l.fn.names))
