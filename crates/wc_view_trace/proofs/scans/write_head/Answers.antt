use Rattle.wc_model.proofs.Common.{◌∷◌, [], codes, on_ok_weaker}
use Rattle.json.specs.Token as json
use Rattle.wc_view_trace.proofs.Joins.{four_parts}
use Rattle.wc_view_trace.specs.Members.{number_member}
use Rattle.wc_view_trace.specs.Scans.{program_of}
use Rattle.wc_view_trace.proofs.scans.write_head.Goals as goal

pub returns-clause-tokens : goal.returns-clause-tokens
returns-clause-tokens c =
    let scan = c.args.scan.now in
    on_ok_weaker c.write_number-3.result
    (four_parts c.args.writer.now.tokens (json.begin_object ∷ []) (number_member (codes "scan") scan.number) (number_member (codes "ms") scan.ms) (number_member (codes "program") (program_of scan.is_changed))
    c.begin_object.new.self.tokens c.write_number.new.writer.tokens c.write_number-2.new.writer.tokens c.write_number-3.new.writer.tokens
    c.in_ok-begin_object.ensures.ok (rw c.from.ensures at c.in_ok-write_number.ensures.0) c.in_ok-write_number-2.ensures.0)
    (rw c.program_of.ensures at c.write_number-3.ensures.0)
