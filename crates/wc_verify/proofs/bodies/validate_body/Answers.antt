use Rattle.wc_model.proofs.Common.{◌≡◌, ◌+◌, [], ◌++◌, Ok, Err, drop, refl, sym, ap, subst, ◌∙◌, drop_all}
use Rattle.wc_model.specs.Definitions.{first_broken, Validates, lines_of, lines_view}
use Rattle.wc_verify.specs.Bodies.{GetsTo, asked_of, row_at}
use Rattle.wc_names.proofs.HandedOn.{propagated}
use Rattle.wc_verify.proofs.BodySteps.{body_fault, goes_further}
use Rattle.wc_verify.proofs.InstrLines.{first_seen}
use Rattle.wc_verify.proofs.bodies.validate_body.Goals as goal

pub loop-line-init : goal.loop-line-init
loop-line-init c = λ scope is. record {
  so_far = [];
  found = λ more. refl;
  represents = record {
    labels = λ name. c.in_ok-labels.ensures.rows scope name ∙ ap (λ items. row_at scope [] (lines_of (lines_view items)) name) (sym c.deref-line-items.ensures.value);
    handed = refl;
  };
}

pub returns-in_err-above : goal.returns-in_err-above
returns-in_err-above c = λ scope more is body.
    let items = c.deref-line-items.result.now in
    let i = c.loop-line.line-index in
    let all = lines_of (lines_view items) in
    let left = lines_view (drop (i + 1) items) in
    let cut = first_seen items i c.line-item.result c.loop-line-test.true c.line-item.is in
    let so_far = subst (λ ls. GetsTo scope [] all (lines_of ls) c.loop-line.labels c.loop-line.above) cut (c.loop-line.invariant scope is) in
    propagated (λ r. Validates {X = Unit {0}} (first_broken (asked_of scope [] (lines_of scope.unit.body) ++ more)) (first_broken more) r) c.in_err-above.field-0.0 c.from_residual-in_err-above.result c.from_residual-in_err-above.ensures
    (subst (λ ls. Validates {X = Unit {0}} (first_broken (asked_of scope [] (lines_of ls) ++ more)) (first_broken more) (Err c.in_err-above.field-0.0)) (ap lines_view c.deref-line-items.ensures.value ∙ sym body)
    (body_fault scope all (lines_of left) c.validate_line.new.labels more c.in_err-above.field-0.0
    (goes_further scope [] all _ (lines_of left) c.loop-line.labels c.validate_line.new.labels c.loop-line.above (Err c.in_err-above.field-0.0) so_far (c.in_err-above.ensures scope so_far.so_far left is so_far.represents))))

pub loop-line-preserved : goal.loop-line-preserved
loop-line-preserved c = λ scope is.
    let items = c.deref-line-items.result.now in
    let i = c.loop-line.line-index in
    let all = lines_of (lines_view items) in
    let left = lines_view (drop (i + 1) items) in
    let cut = first_seen items i c.line-item.result c.loop-line-test.true c.line-item.is in
    let so_far = subst (λ ls. GetsTo scope [] all (lines_of ls) c.loop-line.labels c.loop-line.above) cut (c.loop-line.invariant scope is) in
    goes_further scope [] all _ (lines_of left) c.loop-line.labels c.validate_line.new.labels c.loop-line.above (Ok c.in_ok-above.above) so_far (c.in_ok-above.ensures scope so_far.so_far left is so_far.represents)

pub returns : goal.returns
returns c = λ scope more is body.
    let items = c.deref-line-items.result.now in
    let end : drop c.loop-line.line-index items ≡ [] = drop_all c.loop-line.line-index items c.loop-line-test.false in
    let all_validated = subst (λ xs. GetsTo scope [] (lines_of (lines_view items)) (lines_of (lines_view xs)) c.loop-line.labels c.loop-line.above) end (c.loop-line.invariant scope is) in
    ap (λ ls. first_broken (asked_of scope [] (lines_of ls) ++ more)) (body ∙ ap lines_view (sym c.deref-line-items.ensures.value)) ∙ all_validated.found more
