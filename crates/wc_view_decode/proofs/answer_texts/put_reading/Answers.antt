use Rattle.std.proofs.Common.{◌∙◌, ◌++◌, codes, drop, ap, subst, OnOk, ◌≡◌}
use Rattle.std.proofs.lemmas.Result.{on_ok_weaker}
use Rattle.wc_view_decode.proofs.RowTexts.{named_more, one_more}
use Rattle.wc_view_decode.proofs.answer_texts.put_reading.Goals as goal

pub returns : goal.returns
returns c =
    let old = c.args.text.now.items in
    let weight = c.split_at.ensures.back ∙ ap (λ n. drop n c.args.reading.now.weight) c.spaces_before.ensures.spaces in
    let m1 = c.in_ok-put_bytes.ensures.bytes ∙ ap (λ part. old ++ part) weight in
    let m2 = one_more old _ (codes " ") _ _ m1 c.in_ok-put_bytes-2.ensures.bytes in
    let m3 = named_more old _ _ _ _ _ m2 c.in_ok-put_bytes-3.ensures.bytes (c.as_bytes.ensures.value ∙ c.unit_text.ensures) in
    let m4 = named_more old _ _ _ _ _ m3 c.in_ok-put_bytes-4.ensures.bytes (c.as_bytes-2.ensures.value ∙ c.kind_text.ensures) in
    let m5 = named_more old _ _ _ _ _ m4 c.in_ok-put_bytes-5.ensures.bytes (c.as_bytes-3.ensures.value ∙ c.motion_text.ensures) in (
      on_ok_weaker c.put_bytes-6.result (one_more old _ _ _ _ m5)
          (subst (λ part. OnOk c.put_bytes-6.result (c.put_bytes-6.new.text.items ≡ c.put_bytes-5.new.text.items ++ part)) (c.as_bytes-4.ensures.value ∙ c.status_text.ensures) c.put_bytes-6.ensures.bytes),
      c.put_bytes-6.ensures.memory,
    )
