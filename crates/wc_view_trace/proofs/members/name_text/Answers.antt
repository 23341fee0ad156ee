use Rattle.wc_model.proofs.Common.{◌∙◌, [], cond, sym, ap, false_from_ne_true, IsUtf8-from_is_utf8, is_utf8-from_IsUtf8, is_utf8}
use Rattle.wc_view_trace.proofs.members.name_text.Goals as goal

pub returns-in-Ok : goal.returns-in-Ok
returns-in-Ok c = c.in-Ok.ensures.cases.0 ∙ sym (ap (λ b. cond b c.args.name.now []) (is_utf8-from_IsUtf8 c.args.name.now c.in-Ok.ensures.cases.1))

pub returns-in-Err : goal.returns-in-Err
returns-in-Err c =
    let not_text = false_from_ne_true (is_utf8 c.args.name.now) (λ is. c.in-Err.ensures.cases.0 (IsUtf8-from_is_utf8 c.args.name.now is)) in
    sym (ap (λ b. cond b c.args.name.now []) not_text)
