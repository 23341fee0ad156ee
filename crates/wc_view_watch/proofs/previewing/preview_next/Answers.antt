use Rattle.std.proofs.Common.{refl, sym, subst}
use Rattle.std.specs.Prelude.{Some}
use Rattle.wc_controller.proofs.Givings.{not_loaded, upto_more}
use Rattle.wc_controller.specs.Endings.{WritesUpTo, raised}
use Rattle.wc_model.specs.Definitions.{text_view, loads_program}
use Rattle.wc_view_watch.specs.Previews.{AnswersNew, AnswersTree, IsPreview}
use Rattle.wc_view_watch.proofs.previewing.preview_next.Goals as goal

pub returns-in-Ok-clause-writes : goal.returns-in-Ok-clause-writes
returns-in-Ok-clause-writes g c =
    let taken = g.W.ByteOut.bytes_taken in
    let old = c.args.old.now.source in
    upto_more (IsPreview c.args.paths old c.in-Ok.new.source) (AnswersNew c.args.paths old c.args.text.now) (raised c.write_preview.result) (taken c.args.writer.now) (taken c.write_preview.new.writer)
    (λ answer e. loads_program (text_view c.in-Ok.new.source) c.in-Ok.ensures.loaded (c.in-Ok.new.source, refl, e)) c.write_preview.ensures.writes

pub returns-in-Err-clause-writes : goal.returns-in-Err-clause-writes
returns-in-Err-clause-writes g c =
    let taken = g.W.ByteOut.bytes_taken c.args.writer.now in
    let old = c.args.old.now.source in
    subst (λ why. WritesUpTo (AnswersNew c.args.paths old c.args.text.now) (Some why) taken taken) (sym c.from.ensures)
    (not_loaded c.args.text.now (AnswersTree (IsPreview c.args.paths old)) c.in-Err.fault taken c.in-Err.ensures.refused)
