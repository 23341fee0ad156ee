use Rattle.wc_model.proofs.Common.{◌∷◌, [], rules, codes, on_ok_weaker}
use Rattle.json.specs.Token as json
use Rattle.wc_view_trace.proofs.Joins.{four_parts}
use Rattle.wc_view_trace_rows.proofs.Joins.{two_parts}
use Rattle.wc_view_trace.specs.Members.{integers_member, number_member}
use Rattle.wc_view_trace.specs.Scans.{outputs_tokens}
use Rattle.wc_view_trace.proofs.scans.write_tail.Goals as goal

pub returns : goal.returns
returns c =
    let outputs = c.args.outputs.now in (
      on_ok_weaker c.end_object.result
          (four_parts c.args.writer.now.tokens (number_member (codes "steps") c.args.steps) (number_member (codes "bound") c.args.bound) (outputs_tokens outputs) (json.end_object ∷ [])
          c.write_number.new.writer.tokens c.write_number-2.new.writer.tokens c.write_integers.new.writer.tokens c.end_object.new.self.tokens
          c.in_ok-write_number.ensures.0 (rw c.from.ensures at c.in_ok-write_number-2.ensures.0)
          (two_parts c.write_number-2.new.writer.tokens (number_member (codes "outputs") outputs.bits) (integers_member (codes "words") outputs.words)
          c.write_number-3.new.writer.tokens c.write_integers.new.writer.tokens (rw c.from-2.ensures at c.in_ok-write_number-3.ensures.0) c.in_ok-write_integers.ensures.0))
          c.end_object.ensures.ok,
      search rules,
    )
