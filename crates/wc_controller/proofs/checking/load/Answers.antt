use Rattle.std.proofs.Common.{IfErr, subst}
use Rattle.wc_controller.proofs.LoadedTexts.{headline_holds}
use Rattle.wc_controller.proofs.Refusals.{is_loaded, not_costed, not_declared, not_read, not_verified, with_headline}
use Rattle.wc_controller.proofs.Settled.{is_small, never_refused, only_refusal}
use Rattle.wc_controller.proofs.checking.load.Goals as goal
use Rattle.wc_controller.specs.Loads.{IsRefusedLoad}
use Rattle.wc_cost.specs.LoadedTexts.{IsCosted}
use Rattle.wc_names.specs.declared.kept.Tables.{Tables}
use Rattle.wc_model.specs.Language.Views.{text_view}
use Rattle.wc_model.specs.declared.source.Source.{Source}
use Rattle.wc_run.proofs.HandedOn.{propagated}
use Rattle.wc_verify.specs.CheckedTexts.{CheckedText}

pub returns-in_err-source-clause-refused : goal.returns-in_err-source-clause-refused
returns-in_err-source-clause-refused c =
    let raised = c.in_err-source.field-0.0 in
    propagated (λ r. IfErr r (λ fault. IsRefusedLoad c.args.text.now fault)) raised c.from_residual.result c.from_residual.ensures
    (not_read c.args.text.now raised c.in_err-source.ensures.refused)

pub returns-in_err-tables-clause-refused : goal.returns-in_err-tables-clause-refused
returns-in_err-tables-clause-refused c =
    let raised = c.in_err-tables.field-0.0 in
    propagated (λ r. IfErr r (λ fault. IsRefusedLoad c.args.text.now fault)) raised c.from_residual-in_err-tables.result c.from_residual-in_err-tables.ensures
    (not_declared c.args.text.now (text_view c.in_ok-source.source) c.in_ok-source.ensures.read Tables raised c.in_err-tables.ensures.validated)

pub returns-in_err-checked-clause-refused : goal.returns-in_err-checked-clause-refused
returns-in_err-checked-clause-refused c =
    let raised = c.in_err-checked.field-0.0 in
    propagated (λ r. IfErr r (λ fault. IsRefusedLoad c.args.text.now fault)) raised c.from_residual-in_err-checked.result c.from_residual-in_err-checked.ensures
    (not_verified c.args.text.now (text_view c.in_ok-source.source) c.in_ok-source.ensures.read c.in_ok-tables.ensures.validated CheckedText raised c.in_err-checked.ensures.validated)

pub returns-clause-refused : goal.returns-clause-refused
returns-clause-refused c =
    not_costed c.args.text.now (text_view c.in_ok-source.source) c.in_ok-source.ensures.read c.in_ok-tables.ensures.validated c.in_ok-checked.ensures.validated c.in_ok-source.source c.cost.result
    (subst (λ (s : Source). IsCosted (text_view s) s c.cost.result) c.in_ok-checked.ensures.source c.cost.ensures)

pub returns-clause-loaded : goal.returns-clause-loaded
returns-clause-loaded c =
    is_loaded c.args.text.now c.in_ok-source.source c.in_ok-source.ensures.read c.in_ok-tables.ensures.validated c.in_ok-checked.ensures.validated c.cost.result
    (subst (λ (s : Source). IsCosted (text_view s) s c.cost.result) c.in_ok-checked.ensures.source c.cost.ensures)

pub returns-clause-headline : goal.returns-clause-headline
returns-clause-headline c = with_headline c.args.text.now c.cost.result (returns-clause-loaded c) headline_holds

pub returns-clause-small : goal.returns-clause-small
returns-clause-small c = is_small c.args.text.now c.cost.result (returns-clause-loaded c)

pub returns-clause-accepted : goal.returns-clause-accepted
returns-clause-accepted c = never_refused c.args.text.now c.cost.result (returns-clause-loaded c)

pub returns-in_err-source-clause-only : goal.returns-in_err-source-clause-only
returns-in_err-source-clause-only c = only_refusal c.args.text.now c.from_residual.result (returns-in_err-source-clause-refused c)

pub returns-in_err-tables-clause-only : goal.returns-in_err-tables-clause-only
returns-in_err-tables-clause-only c = only_refusal c.args.text.now c.from_residual-in_err-tables.result (returns-in_err-tables-clause-refused c)

pub returns-in_err-checked-clause-only : goal.returns-in_err-checked-clause-only
returns-in_err-checked-clause-only c = only_refusal c.args.text.now c.from_residual-in_err-checked.result (returns-in_err-checked-clause-refused c)

pub returns-clause-only : goal.returns-clause-only
returns-clause-only c = only_refusal c.args.text.now c.cost.result (returns-clause-refused c)
