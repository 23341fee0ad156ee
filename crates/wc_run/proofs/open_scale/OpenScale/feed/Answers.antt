use Rattle.std.proofs.lemmas.Result.{on_err_weaker, on_ok_weaker}
use Rattle.wc_run.proofs.Feeding.{answers_bytes, cuts_short, takes_bytes}
use Rattle.wc_run.proofs.open_scale.OpenScale.feed.Goals as goal

pub returns-clause-goes : goal.returns-clause-goes
returns-clause-goes g c =
    on_ok_weaker c.feed.result (takes_bytes c.args.self.now c.feed.new.self c.feed.new.indicator _ _ c.args.bytes.now) c.feed.ensures.feeds

pub returns-clause-answers : goal.returns-clause-answers
returns-clause-answers g c =
    on_ok_weaker c.feed.result (answers_bytes c.args.self.now c.feed.new.self c.feed.new.indicator _ _ c.args.bytes.now) c.feed.ensures.feeds

pub returns-clause-fails : goal.returns-clause-fails
returns-clause-fails g c =
    on_err_weaker c.feed.result (cuts_short c.args.self.now c.feed.new.self c.feed.new.indicator _ _ c.args.bytes.now) c.feed.ensures.fails
