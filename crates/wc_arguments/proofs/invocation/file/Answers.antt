use Rattle.std.proofs.Common.{◌∙◌, ap, List, ℕ, [], unwrap_or}
use Rattle.std.specs.Prelude.{Option}
use Rattle.clap.specs.Words.{found_of}
use Rattle.clap.proofs.WalkLemmas.{first_value-rows}
use Rattle.wc_arguments.proofs.Given.{text_or}
use Rattle.wc_arguments.proofs.invocation.file.Goals as goal

pub returns : goal.returns
returns c =
    ap (λ text. text.now) c.unwrap_or.ensures ∙ text_or c.get_str.result _
    ∙ ap (λ (o : Option (List ℕ)). unwrap_or o []) (c.get_str.ensures ∙ first_value-rows (found_of c.args.matches.now) c.args.name.now)
