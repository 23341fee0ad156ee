use Rattle.wc_view_watch.proofs.Rows.{scan_put}
use Rattle.wc_view_watch.proofs.watcher.put_scan.Goals as goal

pub returns-in_ok-put_line-clause-puts : goal.returns-in_ok-put_line-clause-puts
returns-in_ok-put_line-clause-puts c = λ list logic fit runs.
    scan_put list logic c.in-Some.machine.now c.args.names.now c.args.scan.now c.args.text.now.items c.put_record.new.text.items c.put_line.new.line.items fit
    (rw c.in-Some.is at runs) c.in_ok-put_record.ensures.text (c.in_ok-put_line.ensures.puts list)
