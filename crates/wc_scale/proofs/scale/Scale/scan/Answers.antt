-- A scan is refused for a reason, or does what the scan of the open scale does.
use Rattle.std.proofs.Common.{◌≤◌, sym, ap, ◌∙◌, subst, arith}
use Rattle.wc_record.specs.declared.last_scans.Record.{Record}
use Rattle.wc_scale.proofs.RefusedScans.{in_order, not_taken, refused_back, refused_closed, refused_late, refused_none, refused_without, scans}
use Rattle.wc_scale.proofs.scale.Scale.scan.Goals as goal
use Rattle.wc_scale.specs.Representation.{IsOpenAt}

pub returns-in_default-clause-taken : goal.returns-in_default-clause-taken
returns-in_default-clause-taken c = not_taken _ _ c.args.ms 3 c.no_scan.result (omega arith) c.no_scan.ensures

pub returns-in_default-clause-refused : goal.returns-in_default-clause-refused
returns-in_default-clause-refused c = refused_closed c.args.self.now c.args.ms c.no_scan.result c.no_scan.ensures c.in_default.is

pub returns-in_default-last-clause-taken : goal.returns-in_default-last-clause-taken
returns-in_default-last-clause-taken c = not_taken _ _ c.args.ms 5 c.no_scan-in_default-last.result (omega arith) c.no_scan-in_default-last.ensures

pub returns-in_default-last-clause-refused : goal.returns-in_default-last-clause-refused
returns-in_default-last-clause-refused c =
    refused_without c.args.self.now c.in-Some.opened c.args.ms c.no_scan-in_default-last.result c.in-Some.is (sym c.last.ensures ∙ c.in_default-last.is) c.no_scan-in_default-last.ensures

pub returns-then-ms-gt-LAST_MOMENT-clause-taken : goal.returns-then-ms-gt-LAST_MOMENT-clause-taken
returns-then-ms-gt-LAST_MOMENT-clause-taken c = not_taken _ _ c.args.ms 7 c.no_scan-then-ms-gt-LAST_MOMENT.result (omega arith) c.no_scan-then-ms-gt-LAST_MOMENT.ensures

pub returns-then-ms-gt-LAST_MOMENT-clause-refused : goal.returns-then-ms-gt-LAST_MOMENT-clause-refused
returns-then-ms-gt-LAST_MOMENT-clause-refused c =
    refused_late c.args.self.now c.in-Some.opened c.args.ms c.in-Some-last.last c.no_scan-then-ms-gt-LAST_MOMENT.result c.in-Some.is (sym c.last.ensures ∙ c.in-Some-last.is) c.if-ms-gt-LAST_MOMENT.true c.no_scan-then-ms-gt-LAST_MOMENT.ensures

pub returns-then-ms-last-clause-taken : goal.returns-then-ms-last-clause-taken
returns-then-ms-last-clause-taken c = not_taken _ _ c.args.ms 8 c.no_scan-then-ms-last.result (omega arith) c.no_scan-then-ms-last.ensures

pub returns-then-ms-last-clause-refused : goal.returns-then-ms-last-clause-refused
returns-then-ms-last-clause-refused c =
    refused_back c.args.self.now c.in-Some.opened c.args.ms c.in-Some-last.last c.no_scan-then-ms-last.result c.in-Some.is (sym c.last.ensures ∙ c.in-Some-last.is) c.if-ms-gt-LAST_MOMENT.false c.if-ms-last.true c.no_scan-then-ms-last.ensures

pub scan-requires-clause-early : goal.scan-requires-clause-early
scan-requires-clause-early c = let early = c.if-ms-gt-LAST_MOMENT.false in omega (arith, early)

pub scan-requires-clause-in_order : goal.scan-requires-clause-in_order
scan-requires-clause-in_order c = in_order c.in-Some.opened.machine c.in-Some-last.last c.args.ms (sym c.last.ensures ∙ c.in-Some-last.is) c.if-ms-last.false

pub returns-in-Some-scan-clause-taken : goal.returns-in-Some-scan-clause-taken
returns-in-Some-scan-clause-taken c = λ done plate came running program represents.
    let given = c.in-Some-scan.ensures.scans plate came running program (subst (λ o. IsOpenAt o plate came) c.in-Some.is represents) in
    record {
      done = given.done;
      reported = record {
        steps = c.scan_answer.ensures.steps ∙ ap (λ (r : Record). r.steps) given.recorded;
        bits = c.scan_answer.ensures.bits ∙ ap (λ (r : Record). r.outputs.bits) given.recorded;
        words = c.scan_answer.ensures.words ∙ ap (λ (r : Record). r.outputs.words) given.recorded;
      };
      represents = given.represents;
      within = λ n bound. subst (λ k. k ≤ n) (sym c.scan_answer.ensures.steps) (given.within n bound);
      last = c.in-Some-scan.ensures.last;
    }

pub returns-in-Some-scan-clause-refused : goal.returns-in-Some-scan-clause-refused
returns-in-Some-scan-clause-refused c =
    refused_none c.args.self.now _ c.in-Some.opened c.args.ms c.in-Some-last.last c.scan_answer.result c.in-Some.is (sym c.last.ensures ∙ c.in-Some-last.is) c.if-ms-gt-LAST_MOMENT.false c.if-ms-last.false c.scan_answer.ensures.status

pub returns-in-None-clause-taken : goal.returns-in-None-clause-taken
returns-in-None-clause-taken c = not_taken _ _ c.args.ms 5 c.no_scan-in-None.result (omega arith) c.no_scan-in-None.ensures

pub returns-in-None-clause-refused : goal.returns-in-None-clause-refused
returns-in-None-clause-refused c =
    let there = scans c.in-Some.opened.machine c.in-Some-last.last (sym c.last.ensures ∙ c.in-Some-last.is) in
    let none = c.in-None.ensures.there in
    absurd (let f : ⊥ = cc (there, none) in f)
