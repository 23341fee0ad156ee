use Rattle.std.proofs.Common.{sym, ◌∙◌}
use Rattle.wc_diag_texts.proofs.OnLines.{passing_is_shown}
use Rattle.wc_diag_texts.proofs.message.Message.add.Goals as goal

pub returns-then-passes : goal.returns-then-passes
returns-then-passes c = rw (passing_is_shown c.args.text.now (sym c.passes.ensures ∙ c.if-passes.true)) c.put_text.ensures
