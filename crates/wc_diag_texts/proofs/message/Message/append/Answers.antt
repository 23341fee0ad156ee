use Rattle.std.proofs.Common.{arith}
use Rattle.wc_diag_texts.proofs.Calm.{calm_joined}
use Rattle.wc_diag_texts.proofs.OnLines.{text_joined}
use Rattle.wc_diag_texts.proofs.message.Message.append.Goals as goal

pub invariant_of-self-clause-text : goal.invariant_of-self-clause-text
invariant_of-self-clause-text c = grind (arith, text_joined, c.args.other.now.text, c.args.self.now.text)

pub invariant_of-self-clause-calm : goal.invariant_of-self-clause-calm
invariant_of-self-clause-calm c = grind (arith, calm_joined, c.args.other.now.text, c.args.other.now.calm, c.args.self.now.calm)
