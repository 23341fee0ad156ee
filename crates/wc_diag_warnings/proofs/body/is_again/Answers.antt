use Rattle.wc_model.proofs.Common.{false, ◌&&◌, nat_eq, ap, ◌∙◌, list_any}
use Rattle.wc_diag_warnings.proofs.Again.{again_is, never_is}
use Rattle.wc_diag_warnings.specs.{stores, is_on, Store, event_view, outputs_in}
use Rattle.wc_diag_warnings.proofs.body.is_again.Goals as goal

pub returns-in-Some : goal.returns-in-Some
returns-in-Some c before are =
    let numbers = outputs_in c.args.kind in
    let number = c.in-Some.number in
    let e = event_view c.args.event.now in
    ap (λ b. b && c.is_stored.result) c.is_output.ensures ∙ ap (λ b. list_any (nat_eq number) numbers && b) (c.is_stored.ensures ∙ are (Store number))
    ∙ again_is (λ k. is_on false (stores k) before e) (λ k. stores k e) number numbers c.in-Some.ensures.number

pub returns-in-None : goal.returns-in-None
returns-in-None c before are =
    let e = event_view c.args.event.now in
    never_is (λ k. is_on false (stores k) before e) (λ k. stores k e) (outputs_in c.args.kind) c.in-None.ensures.number
