use Rattle.wc_model.proofs.Common.{ap, sym, ◌∙◌, option_to_list}
use Rattle.std.specs.Prelude.{option_map}
use Rattle.wc_laws_instrument.proofs.Requests.{open_request_after}
use Rattle.wc_model.specs.Instrument.Requests.{open_request}
use Rattle.wc_sma.proofs.Stepping.{command_after, no_command_after}
use Rattle.wc_sma.specs.Seen.{command_view, seen_in}
use Rattle.wc_sma.proofs.requests.RequestReader.take.Goals as goal

pub returns-clause-read : goal.returns-clause-read
returns-clause-read c before was =
    c.after_byte-self.ensures (open_request before) was ∙ ap (option_map seen_in) (sym (open_request_after before c.args.byte))

pub returns-clause-command : goal.returns-clause-command
returns-clause-command c before was =
    command_after before c.args.byte _ c.command_of.result (c.in_ok-request.ensures (open_request before) was) c.command_of.ensures

pub returns-in_err-request-clause-read : goal.returns-in_err-request-clause-read
returns-in_err-request-clause-read c before was =
    c.after_byte-self.ensures (open_request before) was ∙ ap (option_map seen_in) (sym (open_request_after before c.args.byte))

pub returns-in_err-request-clause-command : goal.returns-in_err-request-clause-command
returns-in_err-request-clause-command c before was =
    ap (λ o. option_to_list (option_map command_view o)) c.from_residual.ensures
    ∙ no_command_after before c.args.byte (c.in_err-request.ensures (open_request before) was)
