use Rattle.std.proofs.Common.{◌≡◌, sym, subst, ◌++◌}
use Rattle.wc_model.specs.Say.Report.{answer_line}
use Rattle.wc_record.specs.Views.{head_view}
use Rattle.wc_run.proofs.RunsOn.{does_row, stops_row}
use Rattle.wc_run.proofs.ScaleRows.{on_ok_both, on_ok_of}
use Rattle.wc_run.proofs.HandedOn.{propagated}
use Rattle.wc_run.specs.{Does, seen_writing, lines_of_row, said_by, lines_of_scan}
use Rattle.wc_run.proofs.log_rows.run_row.Goals as goal

pub returns-clause-does : goal.returns-clause-does
returns-clause-does g c = λ start plate logic past represents seen.
    let o = g.O.Observer in
    let bytes = g.W.ByteOut.bytes_taken in
    let taken = said_by g.O.Observer.speaks g.W.ByteOut.bytes_taken in
    let row = head_view c.args.bytes.now c.args.row in
    let lines = subst (λ answer. lines_of_row plate logic past row ≡ answer_line c.args.row.ms answer ++ lines_of_scan c.in_ok-scan.scan) (sym c.deref.ensures.value)
    (c.in_ok-scan.ensures.lines plate logic past represents) in
    let items = c.in_ok-scan.ensures.items plate logic past represents in
    let stood = c.in_ok-scan.ensures.represents plate logic past represents in
    does_row c.see.result (seen_writing o.has_seen o.has_written start) (o.plan c.args.observer.now) plate logic past row c.take.new.self (c.see.new.self, bytes c.see.new.writer)
    (taken c.args.writer.now) (taken c.see.new.writer)
    (c.in_ok-scan.ensures.runs plate logic past represents) stood
    (on_ok_both _ _ c.see.result (on_ok_of _ _ c.see.result (λ says. says plate logic past (record { lines = lines; items = items }) stood seen.0) c.see.ensures.seen)
    (on_ok_of _ _ c.see.result
    (λ says. says start plate logic past c.looks_at-looks.result c.looks_at-looks.ensures.looks c.in_ok-scan.ensures.looked (record { lines = lines; items = items }) stood seen.0 seen.1) c.see.ensures.written))
    (c.see.ensures.writes plate logic past (record { lines = lines; items = items }) stood seen.0)

pub returns-in_err-scan-clause-does : goal.returns-in_err-scan-clause-does
returns-in_err-scan-clause-does g c = λ start plate logic past represents seen.
    let o = g.O.Observer in
    let taken = said_by g.O.Observer.speaks g.W.ByteOut.bytes_taken c.args.writer.now in
    let row = head_view c.args.bytes.now c.args.row in
    let fault = c.in_err-scan.field-0.0 in
    propagated (λ result. Does {X = Unit {0}} (seen_writing o.has_seen o.has_written start) (o.plan c.args.observer.now) plate logic past row c.take.new.self (c.args.observer.now, g.W.ByteOut.bytes_taken c.args.writer.now) result taken taken)
    fault c.from_residual.result c.from_residual.ensures
    (stops_row (Unit {0}) fault (seen_writing o.has_seen o.has_written start) (o.plan c.args.observer.now) plate logic past row c.args.scale.now c.take.new.self (c.args.observer.now, g.W.ByteOut.bytes_taken c.args.writer.now) taken
    c.in_err-scan.ensures.stops represents seen)
