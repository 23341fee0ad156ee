use Rattle.std.proofs.Common.{◌≡◌, ◌<◌, ◌∙◌, sym, ap, arith, count_by, drop, length, min, take}
use Rattle.wc_diag_spans.proofs.LineCuts.{is_end, lines_passed}
use Rattle.wc_diag_spans.specs.Lines.{cut_lines}
use Rattle.wc_diag_spans.proofs.lines.pass_first_lines.Goals as goal

pub returns-clause-above : goal.returns-clause-above
returns-clause-above c =
    let text = c.args.text.now in
    let size = c.lines_size-size.result in
    let within : min size (length text) ≡ size = omega (arith, c.lines_size-size.ensures.within) in
    let some : 0 < size = omega (arith, c.if-size-eq0.false) in
    let count = c.line_feeds-count.ensures.counted ∙ ap (count_by is_end) (c.prefix.ensures ∙ ap (λ k. take k text) within) in
    ap (λ n. drop n (cut_lines text)) count
    ∙ lines_passed text size some c.lines_size-size.ensures.within (c.lines_size-size.ensures.ends some)
    ∙ sym (ap cut_lines (c.following.ensures ∙ ap (λ k. drop k text) within))
