use Rattle.std.proofs.Common.{◌≡◌, ◌∙◌, Ok, inl, inr, sym, ap}
use Rattle.hex.proofs.HexLemmas.{decode_of-encode_lower, decode_of-same}
use Rattle.hex.specs.Hex.{decode_of}
use Rattle.wc_report.proofs.Digits.{digits_same}
use Rattle.wc_view_decode.proofs.lines.bytes_in.Goals as goal

pub returns-in-Ok-clause-bytes : goal.returns-in-Ok-clause-bytes
returns-in-Ok-clause-bytes c bytes are e =
    decode_of-same c.args.field.now c.in-Ok.bytes.items bytes c.in-Ok.ensures.ok
    (ap decode_of (e ∙ sym (digits_same bytes are)) ∙ decode_of-encode_lower bytes are)

pub returns-in_default : goal.returns-in_default
returns-in_default c = record {
  bytes = λ bytes are e.
      let good : decode_of c.args.field.now ≡ Ok bytes = ap decode_of (e ∙ sym (digits_same bytes are)) ∙ decode_of-encode_lower bytes are in
      absurd (elim c.in-Err.ensures.err [
        | inl out ↦ c.in_default.not-OutOfMemory out
        | inr refused ↦ cc
      ]);
  memory = tt;
}
