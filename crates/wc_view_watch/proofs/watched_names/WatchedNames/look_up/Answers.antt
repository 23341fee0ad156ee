use Rattle.std.proofs.Common.{rules}
use Rattle.std.specs.Option.{option_map}
use Rattle.wc_model.specs.Language.Views.{text_view}
use Rattle.wc_run.specs.Logics.{text_of_next}
use Rattle.wc_view_watch.proofs.watched_names.WatchedNames.look_up.Goals as goal

pub returns-clause-unknown : goal.returns-clause-unknown
returns-clause-unknown c =
    c.find_unknown-self.ensures (text_view c.args.first.now.source) (text_of_next (option_map (λ loaded. loaded.now) c.args.next)) (search rules)
