use Rattle.wc_model.proofs.Common.{◌∙◌, [], Result, false, refl, sym, subst, Appends}
use Rattle.wc_view_decode.proofs.Chunks.{all_decoded, heading_unwritten, propagated}
use Rattle.wc_view_decode.proofs.Standings.{nothing_read}
use Rattle.wc_view_decode.specs.{DecodesAll, heading, IsInState, Represents}
use Rattle.wc_view_decode.specs.declared.decoder.Decoder.{Decoder}
use Rattle.wc_view_decode.specs.declared.format.DecodeFault.{DecodeFault}
use Rattle.wc_view_decode.proofs.decoding.decode.Goals as goal

pub returns-clause-decoded : goal.returns-clause-decoded
returns-clause-decoded g c =
    let before = g.W.ByteOut.bytes_taken c.args.output.now in
    let after = g.W.ByteOut.bytes_taken c.write_text.new.output in
    let decoder : Decoder = record { format = c.args.format; line = c.new.result; is_long = false } in
    let represents : Represents decoder [] (heading c.args.format) = subst (λ kept. IsInState c.args.format [] kept false (heading c.args.format)) (sym c.new.ensures.items) (nothing_read c.args.format) in
    all_decoded c.decode_rest.result decoder c.args.format
    (g.R.ByteIn.bytes_left c.args.input.now) (g.R.ByteIn.bytes_left c.decode_rest.new.input) before after (g.W.ByteOut.bytes_taken c.decode_rest.new.output)
    refl represents (subst (Appends before after) c.heading.ensures c.in_ok-write_text.ensures.text)
    c.decode_rest.ensures.rest

pub returns-in_err-write_text-clause-decoded : goal.returns-in_err-write_text-clause-decoded
returns-in_err-write_text-clause-decoded g c =
    let input = g.R.ByteIn.bytes_left c.args.input.now in
    let before = g.W.ByteOut.bytes_taken c.args.output.now in
    let after = g.W.ByteOut.bytes_taken c.write_text.new.output in
    let text = c.in_err-write_text.ensures.text in
    propagated (λ (r : Result Unit DecodeFault). DecodesAll c.args.format r input input before after) c.in_err-write_text.field-0.0 c.from_residual.result c.from_residual.ensures
    (heading_unwritten c.args.format input before after text.0 text.1 (sym c.heading.ensures ∙ text.2) text.3)
