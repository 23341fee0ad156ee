use Rattle.std.proofs.Common.{refl}
use Rattle.wc_laws_grammar.proofs.FoundTokens.{found_cut}
use Rattle.wc_examples_language.proofs.cuts.blanks.Goals as goal

pub returns-clause-nothing : goal.returns-clause-nothing
returns-clause-nothing c = found_cut _ _ refl

pub returns-clause-line_end : goal.returns-clause-line_end
returns-clause-line_end c = found_cut _ _ refl

pub returns-clause-comment : goal.returns-clause-comment
returns-clause-comment c = found_cut _ _ refl

pub returns-clause-stars : goal.returns-clause-stars
returns-clause-stars c = found_cut _ _ refl

pub returns-clause-comment_of_two_lines : goal.returns-clause-comment_of_two_lines
returns-clause-comment_of_two_lines c = found_cut _ _ refl
