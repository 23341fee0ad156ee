use Rattle.wc_diag_texts.proofs.OnLines.{says_further}
use Rattle.wc_diag_texts.proofs.message.Message.say.Goals as goal

pub returns-clause-shown : goal.returns-clause-shown
returns-clause-shown c =
    says_further c.add.result c.args.self.now.bytes.items c.add.new.self.bytes.items c.as_bytes.result.now c.add.ensures
