use Rattle.wc_scale.proofs.Answering.{never_fails}
use Rattle.wc_scale.proofs.Opened.{is_allowed_in}
use Rattle.wc_scale.proofs.scale.Scale.byte.Goals as goal

pub returns-in-Err-clause-taken : goal.returns-in-Err-clause-taken
returns-in-Err-clause-taken c = λ plate came represents. absurd (
    never_fails c.in-Some.opened c.feed.new.self c.new-buffer.result c.feed.new.answers c.args.byte plate came
    (is_allowed_in c.args.self.now.opened c.in-Some.opened plate came c.in-Some.is represents) c.new-buffer.ensures.empty c.new-buffer.ensures.works c.in-Err.ensures.fails
    c.in-Err.ensures.device)
