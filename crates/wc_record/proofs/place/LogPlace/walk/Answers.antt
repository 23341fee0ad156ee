use Rattle.std.proofs.Common.{arith}
use Rattle.wc_record.proofs.Cuts.{passed_and_cut}
use Rattle.wc_record.proofs.place.LogPlace.walk.Goals as goal
use Rattle.wc_record.specs.Cutting.{record_start}

pub returns-clause-cuts : goal.returns-clause-cuts
returns-clause-cuts c =
    passed_and_cut c.args.self.now record_start c.args.bytes.now c.whole_lines-lines.result c.walk_on-2.result c.walk_on-2.new.self
    (c.whole_lines-lines.ensures.passes (omega (arith, c.if-lines-eq0.false))) (rw c.at_record.ensures at c.walk_on-2.ensures.cuts)
