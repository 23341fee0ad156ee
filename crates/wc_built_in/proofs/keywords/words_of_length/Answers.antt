use Rattle.std.proofs.Common.{ap, arith, ◌∙◌}
use Rattle.wc_built_in.specs.Keywords.{of_length}
use Rattle.wc_built_in.proofs.WordTables.{longer_words_found}
use Rattle.wc_built_in.proofs.keywords.words_of_length.Goals as goal

pub returns-in_default : goal.returns-in_default
returns-in_default c =
    ap (of_length c.args.letters) c.longer_words.ensures
    ∙ longer_words_found c.args.letters (λ e. omega arith) (λ e. omega arith) (λ e. omega arith) (λ e. omega arith) (λ e. omega arith)
