use Rattle.wc_arguments.specs.Asked.{texts_of}
use Rattle.wc_arguments.proofs.FormatWords.{asked_is, format_is, parsed, refused_by}
use Rattle.wc_arguments.proofs.invocation.read_by.Goals as goal

pub returns-in-Ok-clause-asked : goal.returns-in-Ok-clause-asked
returns-in-Ok-clause-asked c = asked_is _ (texts_of c.args.arguments.now) _ _ _ c.requires c.in-Ok.ensures.ok.2 c.asked_in.ensures.asked

pub returns-in-Ok-clause-format : goal.returns-in-Ok-clause-format
returns-in-Ok-clause-format c = format_is _ (texts_of c.args.arguments.now) _ _ _ _ c.requires c.in-Ok.ensures.ok.2 c.asked_in.ensures.format c.format_of.ensures

pub returns-in-Ok-clause-refused : goal.returns-in-Ok-clause-refused
returns-in-Ok-clause-refused c = parsed _ (texts_of c.args.arguments.now) c.requires c.in-Ok.ensures.kinds

pub returns-in-Err-clause-refused : goal.returns-in-Err-clause-refused
returns-in-Err-clause-refused c = refused_by _ (texts_of c.args.arguments.now) c.in-Err.error c.requires c.in-Err.ensures.kinds
