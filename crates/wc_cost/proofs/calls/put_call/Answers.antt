use Rattle.wc_model.proofs.Common.{◌+◌, ◌≡◌, length, map, subst, sym, ap, ◌∙◌, length-map}
use Rattle.wc_model.specs.Definitions.{name_of, assignment_view}
use Rattle.std.specs.Prelude.{◌<◌}
use Rattle.wc_cost.proofs.CallsLowered.{call_added, on_ok}
use Rattle.wc_cost.proofs.calls.put_call.Goals as goal

pub returns : goal.returns
returns c =
    on_ok c.put-2.result
    (λ put scope rest is callable may few.
    let instance = name_of c.args.instance.now in
    let arguments = map assignment_view c.args.list.now in
    let count : length arguments ≡ length c.args.list.now = length-map c.args.list.now assignment_view in
    call_added scope rest c.args.condition instance arguments c.args.line c.args.flat.now c.put_arguments.new.flat c.put.new.self c.put_arguments-2.new.flat c.put-2.new.self c.body_line.result c.call_length-skip.result (c.in_ok-put_arguments.ensures scope is may) (c.body_line.ensures scope is callable) c.in_ok-put.ensures
    (c.in_ok-put_arguments-2.ensures scope is may) (c.call_length-skip.ensures (subst (λ n. n < 65536) count few) ∙ ap (λ n. 1 + n) (sym count)) put)
    c.put-2.ensures
