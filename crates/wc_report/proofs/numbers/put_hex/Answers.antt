use Rattle.wc_model.proofs.Common.{◌≡◌, ◌+◌, length, take, ◌∙◌, ap, ◌++◌, arith, common_steps}
use Rattle.wc_report.proofs.SpacedNumbers.{filled}
use Rattle.wc_report.proofs.numbers.put_hex.Goals as goal

pub returns-clause-digits : goal.returns-clause-digits
returns-clause-digits c =
    let start : c.len-start.result ≡ length c.args.text.now.items = grind (arith, common_steps) in
    let before : take (length c.args.text.now.items) c.resize.new.self.items ≡ c.args.text.now.items = grind (arith, common_steps) in
    let whole : length c.resize.new.self.items ≡ length c.args.text.now.items + length c.write_digits.new.digits = grind (arith, common_steps) in
    let size : c.resize.new.self.len ≡ length c.resize.new.self.items = grind (arith, common_steps) in
    rw start (filled c.args.text.now.items c.resize.new.self.items c.write_digits.new.digits c.resize.new.self.len before whole size
    ∙ ap (λ d. c.args.text.now.items ++ d) c.write_digits.ensures)
