use Rattle.std.proofs.lemmas.Result.{IfOk-weaker}
use Rattle.wc_diag_messages.proofs.OneLine.{refusal_prints}
use Rattle.wc_diag_messages.proofs.explaining.refusal_message.Goals as goal

pub formatted_message-requires : goal.formatted_message-requires
formatted_message-requires c = refusal_prints c.args.refusal.now c.in_ok-parts.parts c.in_ok-parts.ensures

pub returns-clause-all : goal.returns-clause-all
returns-clause-all c =
    IfOk-weaker c.formatted_message.result _ _ (λ bytes is. record { parts = c.in_ok-parts.parts; known = c.in_ok-parts.ensures; printed = is }) c.formatted_message.ensures.all
