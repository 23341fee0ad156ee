use Rattle.std.proofs.Common.{◌∙◌, IfSome, ap, subst}
use Rattle.wc_diag_spans.proofs.Meaning.{offending_kept, stopped_kept}
use Rattle.wc_diag_spans.specs.{IsKept, known_line}
use Rattle.wc_diag_spans.proofs.searching.find_text.Goals as goal

pub returns-clause-found : goal.returns-clause-found
returns-clause-found c =
    let refusal = c.args.refusal.now in
    let text = c.args.text.now in
    let found = c.find_in.new.diagnostic in
    let new = c.keep_line.new.diagnostic in
    let started = c.new-diagnostic.ensures.line ∙ c.line_of_part.ensures in
    let kept = subst (λ l. IfSome new.span (λ s. IsKept found new l s)) c.line_of_part-line.ensures c.in_ok-keep_line.ensures.span in
    record {
      shows = c.in_ok-keep_line.ensures.line;
      part = (found.line, c.in_ok-keep_line.ensures.known ∙ ap (known_line text) c.line_of_part-line.ensures);
      stopped = stopped_kept refusal.part refusal.number refusal.place 0 found.line _ text found new started c.in_ok-find_in.ensures.stopped kept;
      offending = offending_kept refusal.part refusal.number refusal.place 0 found.line _ text found new started c.in_ok-find_in.ensures.offending kept;
    }
