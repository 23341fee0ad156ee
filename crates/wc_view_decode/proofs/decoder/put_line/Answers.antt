use Rattle.wc_model.proofs.Common.{◌-◌, length, take, ap, subst, arith, on_ok_weaker}
use Rattle.std.specs.Prelude.{option_map}
use Rattle.wc_view_decode.proofs.Standings.{cut_end, marked}
use Rattle.wc_view_decode.specs.{unknown, IsContentOf, entry_content}
use Rattle.wc_view_decode.proofs.decoder.put_line.Goals as goal

pub returns-in-None-clause-line : goal.returns-in-None-clause-line
returns-in-None-clause-line c =
    let line = c.args.line.now in
    let none = subst (λ found. IsContentOf (option_map entry_content found) line) c.in-None.is c.in_ok-entry.ensures.0 in
    on_ok_weaker c.put_unknown.result
    (λ e. (
      unknown c.args.format (take (length line - 1) line),
      e,
      λ kept is single small.
          marked c.args.format line _ (λ reported reports. none reported reports.0 reports.2)
          (ap (unknown c.args.format) (cut_end line kept (length line - 1) (omega (arith, c.requires)) is single)),
    ))
    c.put_unknown.ensures.0
