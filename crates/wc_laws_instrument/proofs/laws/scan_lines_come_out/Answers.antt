use Rattle.wc_laws_instrument.proofs.WrittenLines.{scan_lines_come_out}
use Rattle.wc_laws_instrument.proofs.laws.scan_lines_come_out.Goals as goal

pub returns : goal.returns
returns g c = scan_lines_come_out
