use Rattle.std.proofs.Common.{◌≡◌}
use Rattle.std.specs.Prelude.{drop, map}
use Rattle.wc_model.specs.Definitions.{named_in, name_of}
use Rattle.wc_built_in.specs.Keywords.{keyword_row}
use Rattle.wc_built_in.proofs.keywords.keyword_in.Given as goal

-- no row so far is the word: it is found among those that are left
abbrev pub invariant-loop-row : goal.invariant-loop-row
invariant-loop-row l = named_in (map keyword_row (drop l.row-index l.rows)) (name_of l.text) ≡ named_in (map keyword_row l.rows) (name_of l.text)
