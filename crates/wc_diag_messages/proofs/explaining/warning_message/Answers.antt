use Rattle.std.proofs.lemmas.Result.{IfOk-weaker}
use Rattle.wc_diag_messages.proofs.OneLine.{warning_prints}
use Rattle.wc_diag_messages.proofs.explaining.warning_message.Goals as goal

pub formatted_message-requires : goal.formatted_message-requires
formatted_message-requires c = warning_prints c.args.text.now c.args.tokens.now c.args.warning.now c.in_ok-parts.parts c.in_ok-parts.ensures

pub returns-clause-all : goal.returns-clause-all
returns-clause-all c =
    IfOk-weaker c.formatted_message.result _ _ (λ bytes is. record { parts = c.in_ok-parts.parts; knows = c.in_ok-parts.ensures; printed = is }) c.formatted_message.ensures.all
