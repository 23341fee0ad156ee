use Rattle.wc_model.proofs.Common.{ap, sym, ◌∙◌, if◌then◌else◌}
use Rattle.wc_model.specs.Language.Kinds.{kind_after}
use Rattle.wc_verify.specs.{instr_line, HandsOn}
use Rattle.wc_verify.specs.declared.edges.Way.TheVariants.{Unseen, Agreed}
use Rattle.wc_names.proofs.HandedOn.{propagated}
use Rattle.wc_verify.proofs.BodySteps.{hands_fault}
use Rattle.wc_verify.proofs.bodies.validate_step.Goals as goal

pub returns-in_err-after-clause-validated : goal.returns-in_err-after-clause-validated
returns-in_err-after-clause-validated c = λ scope label following more is counts.
    propagated (HandsOn scope (instr_line c.args.instr.now label) following c.args.kind more) c.in_err-after.field-0.0 c.from_residual.result c.from_residual.ensures
    (hands_fault scope (instr_line c.args.instr.now label) following c.args.kind more c.in_err-after.field-0.0
    (c.in_err-after.ensures scope label following more is (c.target-target.ensures.asks label c.is_ahead-is_ahead.result following (c.is_ahead-is_ahead.ensures following counts))))

pub returns-then-leaves-clause-validated : goal.returns-then-leaves-clause-validated
returns-then-leaves-clause-validated c = λ scope label following more is counts.
    let line = instr_line c.args.instr.now label in
    let goes = c.in_ok-after.ensures scope label following more is (c.target-target.ensures.asks label c.is_ahead-is_ahead.result following (c.is_ahead-is_ahead.ensures following counts)) in
    (goes.0, sym (ap (λ b. if b then Unseen else Agreed (kind_after scope line c.args.kind)) (c.leaves.ensures label ∙ c.if-leaves.true)))

pub returns-else-leaves-clause-validated : goal.returns-else-leaves-clause-validated
returns-else-leaves-clause-validated c = λ scope label following more is counts.
    let line = instr_line c.args.instr.now label in
    let goes = c.in_ok-after.ensures scope label following more is (c.target-target.ensures.asks label c.is_ahead-is_ahead.result following (c.is_ahead-is_ahead.ensures following counts)) in
    (goes.0, ap Agreed goes.1 ∙ sym (ap (λ b. if b then Unseen else Agreed (kind_after scope line c.args.kind)) (c.leaves.ensures label ∙ c.if-leaves.false)))
