use Rattle.std.proofs.Common.{refl, lit≤}
use Rattle.wc_laws_grammar.proofs.FoundTokens.{found_fault}
use Rattle.wc_examples_language.proofs.token_faults.malformed_lexemes.Goals as goal

pub returns-clause-identifier : goal.returns-clause-identifier
returns-clause-identifier c = found_fault _ _ _ (lit≤ tt) refl

pub returns-clause-lone_sign : goal.returns-clause-lone_sign
returns-clause-lone_sign c = found_fault _ _ _ (lit≤ tt) refl

pub returns-clause-number : goal.returns-clause-number
returns-clause-number c = found_fault _ _ _ (lit≤ tt) refl

pub returns-clause-type_name : goal.returns-clause-type_name
returns-clause-type_name c = found_fault _ _ _ (lit≤ tt) refl

pub returns-clause-duration : goal.returns-clause-duration
returns-clause-duration c = found_fault _ _ _ (lit≤ tt) refl

pub returns-clause-after_a_comment : goal.returns-clause-after_a_comment
returns-clause-after_a_comment c = found_fault _ _ _ (lit≤ tt) refl

pub returns-clause-first_of_two : goal.returns-clause-first_of_two
returns-clause-first_of_two c = found_fault _ _ _ (lit≤ tt) refl
