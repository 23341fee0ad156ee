use Rattle.std.proofs.Common.{None, sym}
use Rattle.wc_run.proofs.ScaleRows.{gives_no_items, gives_no_scan, gives_none, gives_scan, passes_scan, takes_scan}
use Rattle.wc_run.proofs.log_scale.LogScale.take_scan.Goals as goal

pub returns-in-Some-clause-takes : goal.returns-in-Some-clause-takes
returns-in-Some-clause-takes g c =
    takes_scan c.args.self.now c.scan.new.self c.args.ms c.in-Some.record (sym c.in-Some.ensures.there) c.in-Some.ensures.scans

pub returns-in-Some-clause-lines : goal.returns-in-Some-clause-lines
returns-in-Some-clause-lines g c =
    gives_scan c.args.self.now c.scan.new.self c.args.ms (record { «record» = c.in-Some.record; lines = None }) (sym c.in-Some.ensures.there) c.in-Some.ensures.scans

pub returns-in-Some-clause-items : goal.returns-in-Some-clause-items
returns-in-Some-clause-items g c = gives_none c.args.self.now c.args.ms c.in-Some.record

pub returns-in-None-clause-takes : goal.returns-in-None-clause-takes
returns-in-None-clause-takes g c =
    passes_scan c.args.self.now c.scan.new.self c.args.ms (sym c.in-None.ensures.there) c.in-None.ensures.none

pub returns-in-None-clause-lines : goal.returns-in-None-clause-lines
returns-in-None-clause-lines g c = gives_no_scan c.args.self.now c.args.ms (sym c.in-None.ensures.there)

pub returns-in-None-clause-items : goal.returns-in-None-clause-items
returns-in-None-clause-items g c = gives_no_items c.args.self.now c.args.ms
