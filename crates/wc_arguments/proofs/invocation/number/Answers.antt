use Rattle.std.proofs.Common.{◌∙◌, ap, option_and_then}
use Rattle.std.specs.Str.Parse.{ParsesUnsigned, ExplainsUnsignedError, HasUnsignedDigitsIfOk}
use Rattle.clap.specs.Words.{found_of, one_text}
use Rattle.clap.proofs.WalkLemmas.{one_text-rows}
use Rattle.wc_arguments.specs.Asked.{number_of}
use Rattle.wc_arguments.proofs.Given.{number_given}
use Rattle.wc_arguments.proofs.invocation.number.Goals as goal

pub returns : goal.returns
returns c =
    number_given (λ bs r. ParsesUnsigned 16 10 bs r × ExplainsUnsignedError 10 bs r × HasUnsignedDigitsIfOk bs r) (one_text (found_of c.args.matches.now) c.args.name.now) c.get_one.result (λ t x g. g.0) c.get_one.ensures.none c.get_one.ensures.value
    ∙ ap (option_and_then number_of) (one_text-rows (found_of c.args.matches.now) c.args.name.now)
