use Rattle.std.proofs.Common.{◌≡◌, option_map, ap, sym, subst, ◌∙◌}
use Rattle.wc_model.specs.Definitions.{jumps_to, lines_of, line_view, word_view}
use Rattle.wc_verify.specs.{GetsTo, GoesTo, jumped_row, row_named, instr_line}
use Rattle.wc_names.proofs.HandedOn.{propagated}
use Rattle.wc_verify.proofs.BodyLines.{label_kept}
use Rattle.wc_verify.proofs.BodySteps.{IsEntered, alone_validated, at_label, counts_entered, given_kept, label_refused, line_validated}
use Rattle.wc_verify.proofs.InstrLines.{lines_put, view_instr, view_none}
use Rattle.wc_verify.proofs.bodies.validate_line.Goals as goal

pub returns-in_err-kind : goal.returns-in_err-kind
returns-in_err-kind c = λ scope before rest is represents.
    propagated (GoesTo scope before (lines_of (line_view c.args.line.now rest)) (lines_of rest) c.enter.new.labels) c.in_err-kind.field-0.0 c.from_residual.result c.from_residual.ensures
    (label_refused scope before c.args.line.now rest c.enter.new.labels c.in_err-kind.field-0.0
    (λ more. c.in_err-kind.ensures.validated before more (given_kept scope before (lines_of (line_view c.args.line.now rest)) c.args.labels.now c.args.above represents)))

pub returns-in-Some : goal.returns-in-Some
returns-in-Some c = λ scope before rest is represents.
    let label = option_map word_view c.args.line.now.label in
    let all = lines_of (line_view c.args.line.now rest) in
    let left = lines_of rest in
    let b = instr_line c.in-Some.instr label in
    let rows = c.args.labels.now in
    let entered : IsEntered scope before b all left label rows c.enter.new.labels c.args.above c.in_ok-kind.kind = record {
      is = ap lines_of (view_instr c.args.line.now c.in-Some.instr rest c.in-Some.is) ∙ lines_put b rest;
      carried = label_kept c.in-Some.instr label;
      represents = represents;
      kind_is = c.in_ok-kind.ensures.kind;
      rows_are = c.in_ok-kind.ensures.entered;
      new = λ more. c.in_ok-kind.ensures.validated before more (given_kept scope before all rows c.args.above represents);
    } in
    line_validated scope before b all left label rows c.enter.new.labels c.validate_step.new.labels c.args.above c.in_ok-kind.kind c.validate_step.result entered
    (at_label c.validate_step.result label (λ label name. row_named c.validate_step.new.labels name ≡ jumped_row (jumps_to (instr_line c.in-Some.instr label) name) c.in_ok-kind.kind (row_named c.enter.new.labels name)) c.validate_step.ensures.rows)
    (λ more. c.validate_step.ensures.validated scope label left more is (counts_entered scope before b all left label rows c.enter.new.labels c.args.above c.in_ok-kind.kind entered))

pub returns-in-None : goal.returns-in-None
returns-in-None c = λ scope before rest is represents.
    let label = option_map word_view c.args.line.now.label in
    let all = lines_of (line_view c.args.line.now rest) in
    subst (λ way. GetsTo scope before all (lines_of rest) c.enter.new.labels way) (sym c.handed_by_label.ensures)
    (alone_validated scope before all label rest c.args.labels.now c.enter.new.labels c.args.above c.in_ok-kind.kind (ap lines_of (view_none c.args.line.now rest c.in-None.is)) represents
    c.in_ok-kind.ensures.kind c.in_ok-kind.ensures.entered (λ more. c.in_ok-kind.ensures.validated before more (given_kept scope before all c.args.labels.now c.args.above represents)))
