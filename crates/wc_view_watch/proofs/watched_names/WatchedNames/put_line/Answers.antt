use Rattle.wc_model.proofs.Common.{◌∷◌, [], flat_map}
use Rattle.std.specs.Fmt.{decimal}
use Rattle.wc_names.proofs.HandedOn.{on_ok}
use Rattle.wc_view_watch.proofs.LookUps.{four_chunks}
use Rattle.wc_view_watch.proofs.watched_names.WatchedNames.put_line.Goals as goal
use Rattle.wc_view_watch.specs.Plans.{names_in, value_text}

pub returns-clause-puts : goal.returns-clause-puts
returns-clause-puts c = λ list text next store looked represents.
    on_ok c.put_bytes-2.result
    (λ put. four_chunks c.args.line.now.items c.put_bytes.new.text.items c.put_number.new.text.items c.put_values.new.line.items c.put_bytes-2.new.text.items
    (86 ∷ 32 ∷ []) (decimal c.args.ms) (flat_map (value_text text store) (names_in list)) (10 ∷ [])
    c.in_ok-put_bytes.ensures.bytes c.in_ok-put_number.ensures.digits (c.in_ok-put_values.ensures.puts list text next store looked represents) put)
    c.put_bytes-2.ensures.bytes
