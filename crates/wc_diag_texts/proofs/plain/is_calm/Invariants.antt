use Rattle.std.proofs.Common.{◌≡◌, drop}
use Rattle.wc_diag_texts.specs.Plain.{is_calm}
use Rattle.wc_diag_texts.proofs.plain.is_calm.Given as goal

-- what is left decides
abbrev pub invariant-loop-index : goal.invariant-loop-index
invariant-loop-index l = is_calm l.text ≡ is_calm (drop l.index l.text)
