use Rattle.wc_model.proofs.Common.{◌≡◌, ℕ, Global, Result, Vec, refl, sym, ap, ◌∙◌, arith, None, inl, inr, IfOk, IsOkUnless, slice_get, take_all, slice_get_cases, option_copied}
use Rattle.wc_model.specs.Say.Report.{line_text, report_text}
use Rattle.wc_run.proofs.Recording.{one_record_more}
use Rattle.wc_run.specs.Observing.{line_of_record, lines_of_records}
use Rattle.wc_run.specs.declared.fault.RunFault.{RunFault}
use Rattle.wc_run.specs.declared.fault.RunFault.TheVariants.{Memory}
use Rattle.wc_run.proofs.HandedOn.{propagated}
use Rattle.wc_run.proofs.report.last_text.Goals as goal

pub loop-index-preserved : goal.loop-index-preserved
loop-index-preserved c =
    c.in_ok-put_record.ensures.text
    ∙ one_record_more c.args.recorder.now.records c.loop-index.index c.in-Some.scan.now c.loop-index.lines.items (line_text (line_of_record c.in-Some.scan.now))
    (sym c.in-Some.ensures) c.loop-index.invariant refl

-- there is a record at each index
pub loop-index-preserved-in_default : goal.loop-index-preserved-in_default
loop-index-preserved-in_default c =
    let missing : slice_get c.args.recorder.now.records c.loop-index.index ≡ None = sym c.get.ensures ∙ ap option_copied c.in_default.is in
    elim (slice_get_cases c.args.recorder.now.records c.loop-index.index).1 [
      | inl there ↦ absurd (cc (missing, there.2))
      | inr past ↦ absurd (omega (arith, past.0))
    ]

pub loop-index-init : goal.loop-index-init
loop-index-init c = c.new-lines.ensures.items

pub returns-in_err-put_record-clause-text : goal.returns-in_err-put_record-clause-text
returns-in_err-put_record-clause-text c =
    propagated (λ (r : Result (Vec ℕ Global) RunFault). IfOk r (λ text. text.items ≡ report_text (lines_of_records c.args.recorder.now.records))) c.in_err-put_record.field-0.0 c.from_residual.result c.from_residual.ensures tt

pub returns-in_err-put_record-clause-memory : goal.returns-in_err-put_record-clause-memory
returns-in_err-put_record-clause-memory c =
    propagated (λ (r : Result (Vec ℕ Global) RunFault). IsOkUnless r Memory) c.in_err-put_record.field-0.0 c.from_residual.result c.from_residual.ensures c.in_err-put_record.ensures.memory

pub returns-clause-text : goal.returns-clause-text
returns-clause-text c =
    let records = c.args.recorder.now.records in
    let end = c.loop-index-test.false in
    let count = c.len-index-end.ensures in
    c.loop-index.invariant ∙ ap (λ some. report_text (lines_of_records some)) (take_all c.loop-index.index records (omega (arith, end, count)))

pub returns-clause-memory : goal.returns-clause-memory
returns-clause-memory c = tt
