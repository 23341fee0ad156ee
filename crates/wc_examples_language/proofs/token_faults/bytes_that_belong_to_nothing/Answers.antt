use Rattle.std.proofs.Common.{refl, lit≤}
use Rattle.wc_laws_grammar.proofs.FoundTokens.{found_fault}
use Rattle.wc_examples_language.proofs.token_faults.bytes_that_belong_to_nothing.Goals as goal

pub returns-clause-hash : goal.returns-clause-hash
returns-clause-hash c = found_fault _ _ _ (lit≤ tt) refl

pub returns-clause-hash_after_operator : goal.returns-clause-hash_after_operator
returns-clause-hash_after_operator c = found_fault _ _ _ (lit≤ tt) refl

pub returns-clause-hash_after_address : goal.returns-clause-hash_after_address
returns-clause-hash_after_address c = found_fault _ _ _ (lit≤ tt) refl

pub returns-clause-greater : goal.returns-clause-greater
returns-clause-greater c = found_fault _ _ _ (lit≤ tt) refl

pub returns-clause-equal : goal.returns-clause-equal
returns-clause-equal c = found_fault _ _ _ (lit≤ tt) refl

pub returns-clause-star : goal.returns-clause-star
returns-clause-star c = found_fault _ _ _ (lit≤ tt) refl

pub returns-clause-last_return : goal.returns-clause-last_return
returns-clause-last_return c = found_fault _ _ _ (lit≤ tt) refl

pub returns-clause-two_returns : goal.returns-clause-two_returns
returns-clause-two_returns c = found_fault _ _ _ (lit≤ tt) refl

pub returns-clause-second_line : goal.returns-clause-second_line
returns-clause-second_line c = found_fault _ _ _ (lit≤ tt) refl
