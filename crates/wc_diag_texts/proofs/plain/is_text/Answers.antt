use Rattle.wc_model.proofs.Common.{arith, IsUtf8-from_is_utf8, is_utf8-from_IsUtf8}
use Rattle.wc_diag_texts.proofs.plain.is_text.Goals as goal

pub returns : goal.returns
returns c = grind (arith, IsUtf8-from_is_utf8, is_utf8-from_IsUtf8)
