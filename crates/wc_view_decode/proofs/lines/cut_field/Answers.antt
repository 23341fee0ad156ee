use Rattle.std.proofs.Common.{◌≡◌, ◌∙◌, ◌∷◌, Bor, ℕ, List, Option, Some, None, take, drop, length, nat_lt, ap, arith, inl, inr}
use Rattle.wc_model.proofs.Common.{slice_range, prefix_len, IsGetRangeResult, take_all, take-append_seam, drop-append_seam}
use Rattle.std.specs.Option.{unwrap_or}
use Rattle.wc_view_decode.proofs.Digits.{field_in_prefix}
use Rattle.wc_view_decode.proofs.lines.cut_field.Goals as goal

-- what follows the byte that ends a field
after_end : (text : Bor (List ℕ)) (end : ℕ) (more : List ℕ) (got : Option (Bor (List ℕ))) → text.now ≡ end ∷ more → IsGetRangeResult text.now 1 (length text.now) got → (unwrap_or got text).now ≡ more
after_end text end more (Some part) e is = is.0.2 ∙ ap (λ t. slice_range t 1 (length t)) e ∙ take_all _ more (omega arith)
after_end text end more None e is = absurd (elim is.0 [ inl short ↦ omega (arith, short, ap length e) | inr short ↦ omega (arith, short) ])

pub returns : goal.returns
returns c bytes more end are ends e =
    let size = c.field_length.ensures.first ∙ ap (prefix_len (λ byte. nat_lt 32 byte)) e ∙ field_in_prefix bytes more end are ends in (
      c.split_at.ensures.front ∙ ap (λ n. take n c.args.text.now) size ∙ ap (take (length bytes)) e ∙ take-append_seam bytes (end ∷ more),
      rw c.unwrap_or.ensures
          (after_end c.split_at.result.1 end more c.get.result (c.split_at.ensures.back ∙ ap (λ n. drop n c.args.text.now) size ∙ ap (drop (length bytes)) e ∙ drop-append_seam bytes (end ∷ more))
          c.get.ensures.lookup),
    )
