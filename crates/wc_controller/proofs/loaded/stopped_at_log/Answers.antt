use Rattle.wc_model.proofs.Common.{subst, IfSome}
use Rattle.wc_controller.proofs.Allowing.{on_both}
use Rattle.wc_controller.proofs.Blaming.{log_refused}
use Rattle.wc_controller.proofs.loaded.stopped_at_log.Goals as goal
use Rattle.wc_controller.specs.TakenLogs.{log_by}
use Rattle.wc_run.specs.{WritesBy, ReportsRefused}

pub returns-in-Err-clause-blames : goal.returns-in-Err-clause-blames
returns-in-Err-clause-blames c = λ plan plate logic fields known before after writes reports at.
    on_both known _ _ _ (λ bytes reported row. log_refused plan plate logic (log_by logic) fields bytes c.in-Err.fault before after reported row)
    (subst (λ answer. IfSome known (λ bytes. WritesBy plan plate logic (log_by logic bytes) answer before after)) c.in-Err.is writes)
    (subst (λ answer. ReportsRefused known fields answer) c.in-Err.is reports)
