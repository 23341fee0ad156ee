use Rattle.wc_model.proofs.Common.{◌++◌, ap, ◌∙◌, fun_ext, on_ok_weaker}
use Rattle.wc_model.specs.Definitions.{variables_of, unit_view}
use Rattle.wc_diag_warnings.specs.{warnings_view, declared_warnings}
use Rattle.wc_diag_warnings.proofs.diagnostic.warn_names.Goals as goal

pub returns : goal.returns
returns c = record {
  added =
      let unit = c.args.unit.now in
      let so_far = warnings_view c.args.warnings.now.items in
      on_ok_weaker c.warn_declared.result
      (λ added. added ∙ ap (λ uses. so_far ++ declared_warnings unit.kind uses (variables_of (unit_view unit))) (fun_ext (c.in_ok-fill.ensures.found c.no_uses-uses.ensures)))
      c.warn_declared.ensures.added;
}
