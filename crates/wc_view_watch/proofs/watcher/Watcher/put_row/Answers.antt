use Rattle.std.proofs.Common.{◌∷◌, ◌∙◌, sym}
use Rattle.wc_names.proofs.HandedOn.{on_ok}
use Rattle.wc_run.specs.{logic_after, row_of}
use Rattle.wc_view_watch.proofs.Rows.{kept_with_scan, kept_without_scan, row_with_scan, row_without_scan, values_left}
use Rattle.wc_view_watch.proofs.watcher.Watcher.put_row.Goals as goal
use Rattle.wc_view_watch.specs.Plans.{last_values, scans_so_far}

pub returns-in_default-clause-text : goal.returns-in_default-clause-text
returns-in_default-clause-text c = λ plate logic past shown represents fit kept values.
    let old = c.args.self.now in
    row_without_scan old.list.now old.changes plate logic past c.args.seen.now shown old.number c.clear.new.self.items c.put_answer.new.text.items
    c.in_default.is c.clear.ensures.items c.in_ok-put_answer.ensures.text

pub returns-in_default-clause-scans : goal.returns-in_default-clause-scans
returns-in_default-clause-scans c = λ plate logic past shown represents fit kept values.
    let old = c.args.self.now in
    kept_without_scan old.list.now old.changes plate logic past c.args.seen.now shown old.number old.last c.in_default.is kept

pub returns-in_default-clause-values : goal.returns-in_default-clause-values
returns-in_default-clause-values c = λ plate logic past shown represents fit kept values chosen.
    let old = c.args.self.now in
    values chosen ∙ sym (rw c.in_default.is at (values_left old.list.now old.changes plate logic past c.args.seen.now shown))

pub returns-clause-text : goal.returns-clause-text
returns-clause-text c =
    let old = c.args.self.now in
    on_ok c.keep_scan.result
    (λ puts plate logic past shown represents fit kept values.
    let after = logic_after plate logic (row_of c.args.seen.now ∷ past) in
    let runs = rw (← c.machine-machine.ensures) at represents.opened.program in
    let written = sym (c.in_ok-is_written.ensures.written old.list.now after (last_values old.list.now plate logic past) fit runs values) ∙ c.if-not-branch.false in
    row_with_scan old.list.now old.changes plate logic past c.args.seen.now shown old.number c.in-Some.scan c.clear.new.self.items c.put_answer.new.text.items c.clear-2.new.self.items
    c.put_scan.new.text.items c.keep_scan.new.self.text.items c.in-Some.is written c.clear.ensures.items c.in_ok-put_answer.ensures.text c.clear-2.ensures.items
    (c.in_ok-put_scan.ensures.puts old.list.now after fit runs)
    (puts (scans_so_far old.list.now old.changes plate logic past) kept))
    c.keep_scan.ensures.text

pub returns-clause-scans : goal.returns-clause-scans
returns-clause-scans c =
    let old = c.args.self.now in
    on_ok c.keep_scan.result
    (λ keeps plate logic past shown represents fit kept values.
    let after = logic_after plate logic (row_of c.args.seen.now ∷ past) in
    let runs = rw (← c.machine-machine.ensures) at represents.opened.program in
    let written = sym (c.in_ok-is_written.ensures.written old.list.now after (last_values old.list.now plate logic past) fit runs values) ∙ c.if-not-branch.false in
    kept_with_scan old.list.now old.changes plate logic past c.args.seen.now shown old.number c.keep_scan.new.self.last c.in-Some.scan c.clear-2.new.self.items c.put_scan.new.text.items
    c.in-Some.is written c.clear-2.ensures.items (c.in_ok-put_scan.ensures.puts old.list.now after fit runs)
    (keeps (scans_so_far old.list.now old.changes plate logic past) kept))
    c.keep_scan.ensures.keeps
