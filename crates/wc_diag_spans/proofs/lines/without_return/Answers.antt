use Rattle.wc_model.proofs.Common.{◌≡◌, ◌-◌, ◌∙◌, sym, ap, arith, length, min, take, eqb-false}
use Rattle.wc_diag_spans.proofs.LineCuts.{line_kept, return_dropped}
use Rattle.wc_diag_spans.proofs.lines.without_return.Goals as goal

pub returns-then-line-last-eq13 : goal.returns-then-line-last-eq13
returns-then-line-last-eq13 c =
    let line = c.args.line.now in
    let other = eqb-false (length line) 0 (sym c.is_empty.ensures ∙ c.if-is_empty.false) in
    let within : min (length line - 1) (length line) ≡ length line - 1 = omega arith in
    c.prefix.ensures ∙ ap (λ k. take k line) within ∙ return_dropped line (omega (arith, other)) c.if-line-last-eq13.true

pub returns : goal.returns
returns c = line_kept c.args.line.now c.if-line-last-eq13.false
