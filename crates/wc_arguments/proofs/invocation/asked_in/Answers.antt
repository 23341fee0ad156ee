use Rattle.std.proofs.Common.{◌∙◌, ap, codes}
use Rattle.std.specs.Prelude.{option_map}
use Rattle.std.specs.Option.{option_or}
use Rattle.clap.specs.Words.{found_of, rows_of}
use Rattle.clap.proofs.WalkLemmas.{first_value-rows}
use Rattle.wc_arguments.proofs.FormatWords.{asked_of_word, after_word, no_word}
use Rattle.wc_arguments.proofs.Given.{first_text}
use Rattle.wc_arguments.proofs.invocation.asked_in.Goals as goal

pub returns-in-Some-clause-asked : goal.returns-in-Some-clause-asked
returns-in-Some-clause-asked c =
    c.wanted_by.ensures ∙ asked_of_word c.args.matches.now c.in-Some.word.now (rows_of (found_of c.in-Some.inner.now)) c.in-Some.ensures.name c.in-Some.ensures.rows

pub returns-in-Some-clause-format : goal.returns-in-Some-clause-format
returns-in-Some-clause-format c =
    ap (option_map (λ text. text.now)) c.or.ensures ∙ first_text c.get_str.result c.get_str-before.result
    ∙ ap (option_or (option_map (λ text. text.now) c.get_str.result)) (c.get_str-before.ensures ∙ first_value-rows (found_of c.args.matches.now) (codes "message"))
    ∙ after_word _ (rows_of (found_of c.in-Some.inner.now)) (rows_of (found_of c.args.matches.now)) _ c.in-Some.ensures.rows (c.get_str.ensures ∙ first_value-rows (found_of c.in-Some.inner.now) (codes "message"))

pub returns-in-None-clause-format : goal.returns-in-None-clause-format
returns-in-None-clause-format c =
    c.get_str-before.ensures ∙ first_value-rows (found_of c.args.matches.now) (codes "message") ∙ no_word _ (rows_of (found_of c.args.matches.now)) c.in-None.ensures.rows
