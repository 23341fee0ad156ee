use Rattle.wc_model.proofs.Common.{◌∷◌, [], codes, flat_map, on_ok_weaker}
use Rattle.json.specs.Token as json
use Rattle.wc_view_trace.proofs.Joins.{four_parts}
use Rattle.wc_view_trace.specs.Items.{item_tokens}
use Rattle.wc_view_trace.proofs.items.write_items.Goals as goal

pub returns-clause-tokens : goal.returns-clause-tokens
returns-clause-tokens c =
    let written = c.in_ok-write_each.ensures.tokens in
    on_ok_weaker c.end_array.result
    (λ last. (
      written.0,
      written.1,
      four_parts c.args.writer.now.tokens (json.key (codes "items") ∷ []) (json.begin_array ∷ []) (flat_map (item_tokens c.args.legend.now) written.0) (json.end_array ∷ [])
          c.key.new.self.tokens c.begin_array.new.self.tokens c.write_each.new.writer.tokens c.end_array.new.self.tokens c.in_ok-key.ensures.ok c.in_ok-begin_array.ensures.ok written.2 last,
    ))
    c.end_array.ensures.ok
