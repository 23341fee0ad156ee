use Rattle.wc_run.proofs.ScaleRows.{gives_answer, takes_bytes}
use Rattle.wc_run.proofs.log_scale.LogScale.take_bytes.Goals as goal

pub returns-in-Ok-clause-takes : goal.returns-in-Ok-clause-takes
returns-in-Ok-clause-takes g c = takes_bytes c.args.self.now c.feed.new.self c.args.bytes.now c.in-Ok.ensures.goes

pub returns-in-Ok-clause-lines : goal.returns-in-Ok-clause-lines
returns-in-Ok-clause-lines g c =
    gives_answer c.args.self.now c.args.bytes.now c.args.answers.now.bytes.items c.feed.new.answers.bytes.items c.requires.empty c.in-Ok.ensures.answers
