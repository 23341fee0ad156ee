use Rattle.std.proofs.Common.{Some, subst, sym}
use Rattle.wc_run.specs.Scanning.{Sees}
use Rattle.wc_run.proofs.ScaleRows.{gives_items, gives_no_items, gives_no_scan, gives_scan, passes_scan, takes_scan}
use Rattle.wc_run.proofs.log_scale.LogScale.look_at.Goals as goal

pub returns-in_ok-lines-in-Some-clause-takes : goal.returns-in_ok-lines-in-Some-clause-takes
returns-in_ok-lines-in-Some-clause-takes g c =
    takes_scan c.args.self.now c.trace.new.self c.args.ms c.in-Some.record (sym c.in-Some.ensures.there) c.in-Some.ensures.scans

pub returns-in_ok-lines-in-Some-clause-lines : goal.returns-in_ok-lines-in-Some-clause-lines
returns-in_ok-lines-in-Some-clause-lines g c =
    gives_scan c.args.self.now c.trace.new.self c.args.ms (record { «record» = c.in-Some.record; lines = Some c.in_ok-lines-in-Some.lines }) (sym c.in-Some.ensures.there)
    c.in-Some.ensures.scans

pub returns-in_ok-lines-in-Some-clause-items : goal.returns-in_ok-lines-in-Some-clause-items
returns-in_ok-lines-in-Some-clause-items g c =
    gives_items c.args.self.now c.args.ms c.in-Some.record c.in_ok-lines-in-Some.lines (sym c.in-Some.ensures.there)
    (subst (λ lines. Sees c.args.self.now.opened c.args.ms lines) c.in_ok-lines-in-Some.was c.in-Some.ensures.seen)

pub returns-in_err-lines-in-Some-clause-takes : goal.returns-in_err-lines-in-Some-clause-takes
returns-in_err-lines-in-Some-clause-takes g c =
    takes_scan c.args.self.now c.trace.new.self c.args.ms c.in-Some.record (sym c.in-Some.ensures.there) c.in-Some.ensures.scans

pub returns-in-None-clause-takes : goal.returns-in-None-clause-takes
returns-in-None-clause-takes g c =
    passes_scan c.args.self.now c.trace.new.self c.args.ms (sym c.in-None.ensures.there) c.in-None.ensures.none

pub returns-in-None-clause-lines : goal.returns-in-None-clause-lines
returns-in-None-clause-lines g c = gives_no_scan c.args.self.now c.args.ms (sym c.in-None.ensures.there)

pub returns-in-None-clause-items : goal.returns-in-None-clause-items
returns-in-None-clause-items g c = gives_no_items c.args.self.now c.args.ms
