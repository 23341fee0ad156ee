use Rattle.wc_laws_language.proofs.without_outputs.an_input_is_spelled_as_it_was.Goals as goal

pub returns : goal.returns
returns c = λ input value tokens. (λ h. h, λ h. h)
