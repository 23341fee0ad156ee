use Rattle.std.proofs.Common.{refl, lit≤}
use Rattle.wc_laws_grammar.proofs.FoundTokens.{found_fault}
use Rattle.wc_examples_language.proofs.token_faults.comments_that_do_not_close.Goals as goal

pub returns-clause-nested : goal.returns-clause-nested
returns-clause-nested c = found_fault _ _ _ (lit≤ tt) refl

pub returns-clause-short : goal.returns-clause-short
returns-clause-short c = found_fault _ _ _ (lit≤ tt) refl

pub returns-clause-nested_without_end : goal.returns-clause-nested_without_end
returns-clause-nested_without_end c = found_fault _ _ _ (lit≤ tt) refl

pub returns-clause-later_line : goal.returns-clause-later_line
returns-clause-later_line c = found_fault _ _ _ (lit≤ tt) refl

pub returns-clause-nested_later : goal.returns-clause-nested_later
returns-clause-nested_later c = found_fault _ _ _ (lit≤ tt) refl
