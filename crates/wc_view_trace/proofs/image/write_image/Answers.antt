use Rattle.wc_model.proofs.Common.{◌≡◌, ◌∙◌, ◌++◌, ◌∷◌, [], of_z, rules, to_z, w32, codes, to_z-of_z, on_ok_weaker}
use Rattle.wc_view_trace_rows.proofs.Joins.{three_parts}
use Rattle.wc_view_trace.specs.Members.{Image, integers_member, number_member}
use Rattle.wc_view_trace.proofs.image.write_image.Goals as goal

pub returns-clause-tokens : goal.returns-clause-tokens
returns-clause-tokens c =
    let image : Image = record { inputs = c.bits_at.result; status = c.bits_at-2.result; gross = c.weight_at.result; net = c.weight_at-2.result; tare = c.weight_at-3.result } in
    let gross : to_z w32 (of_z w32 image.gross) ≡ image.gross = to_z-of_z w32 _ (search rules) in
    let net : to_z w32 (of_z w32 image.net) ≡ image.net = to_z-of_z w32 _ (search rules) in
    let tare : to_z w32 (of_z w32 image.tare) ≡ image.tare = to_z-of_z w32 _ (search rules) in
    on_ok_weaker c.write_integers.result
    (λ put. (
      image,
      record { inputs = c.bits_at.ensures; status = c.bits_at-2.ensures; gross = c.weight_at.ensures; net = c.weight_at-2.ensures; tare = c.weight_at-3.ensures },
      three_parts c.args.writer.now.tokens (number_member (codes "inputs") image.inputs) (number_member (codes "status") image.status)
          (integers_member (codes "weights") (image.gross ∷ image.net ∷ image.tare ∷ []))
          c.write_number.new.writer.tokens c.write_number-2.new.writer.tokens c.write_integers.new.writer.tokens c.in_ok-write_number.ensures.0 c.in_ok-write_number-2.ensures.0
          (put ∙ (λ i. c.write_number-2.new.writer.tokens ++ integers_member (codes "weights") (gross i ∷ net i ∷ tare i ∷ []))),
    ))
    c.write_integers.ensures.0
