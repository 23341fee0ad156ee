use Rattle.std.proofs.Common.{◌∙◌, ap, codes, false, Option, List, ℕ}
use Rattle.std.specs.Option.{option_map_or}
use Rattle.std.specs.Str.{bytes_eq}
use Rattle.clap.specs.Words.{found_of, one_text}
use Rattle.clap.proofs.WalkLemmas.{one_text-rows}
use Rattle.wc_arguments.proofs.Given.{flag_given}
use Rattle.wc_arguments.proofs.invocation.is_given.Goals as goal

pub returns : goal.returns
returns c =
    c.unwrap_or.ensures ∙ flag_given _ (one_text (found_of c.args.matches.now) c.args.name.now) c.get_one.result c.get_one.ensures.none c.get_one.ensures.value
    ∙ ap (λ (o : Option (List ℕ)). option_map_or (λ text. bytes_eq text (codes "true")) o false) (one_text-rows (found_of c.args.matches.now) c.args.name.now)
