use Rattle.std.proofs.Common.{◌≡◌, ◌++◌, take}
use Rattle.wc_view_decode.specs.Formats.{answer_lines}
use Rattle.wc_view_decode.proofs.entry_formats.put_answers.Given as goal

-- the answers so far are written
abbrev pub invariant-loop-answer : goal.invariant-loop-answer
invariant-loop-answer l = l.text.items ≡ l.fn.text.items ++ answer_lines l.fn.format l.fn.ms (take l.answer-index l.fn.answers)
