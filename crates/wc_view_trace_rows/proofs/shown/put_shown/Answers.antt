use Rattle.wc_model.proofs.Common.{◌≡◌, ◌∙◌, ◌++◌, List, ℕ, Bor, Result, Ok, Err, IsUtf8, ap, append-nil, sym, MatchResult, is_ok, is_utf8, false_from_ne_true, drop_all, IsUtf8-from_is_utf8, is_utf8-from_IsUtf8}
use Rattle.wc_view_trace_rows.proofs.Chunks.{passed, put_next}
use Rattle.wc_view_trace_rows.specs.Columns.{shown_bytes, single_spaces}
use Rattle.wc_view_trace_rows.proofs.shown.put_shown.Goals as goal

pub loop-index-preserved-then-hidden-gt0 : goal.loop-index-preserved-then-hidden-gt0
loop-index-preserved-then-hidden-gt0 c =
    ap (λ l. c.loop-index.text.items ++ single_spaces c.loop-index.before l)
    (passed c.is_ok-is_utf8.result c.loop-index.hidden c.saturating_sub-hidden.result c.loop-index.index c.args.bytes.now c.if-hidden-gt0.true c.saturating_sub-hidden.ensures c.loop-index-test.true)
    ∙ c.loop-index.invariant

pub loop-index-preserved : goal.loop-index-preserved
loop-index-preserved c =
    put_next c.is_ok-is_utf8.result c.loop-index.before c.first_shown-shown.result c.loop-index.hidden c.hidden_length-length.result c.saturating_sub-hidden-in-loop-index.result c.loop-index.index
    c.loop-index.text.items c.put_single.new.text.items c.split_at.result.1.now c.args.bytes.now _ c.loop-index-test.true c.if-hidden-gt0.false c.split_at.ensures.back
    c.hidden_length-length.ensures c.first_shown-shown.ensures c.saturating_sub-hidden-in-loop-index.ensures c.in_ok-put_single.ensures.0 c.loop-index.invariant

says : {E : Type 0} (bytes : List ℕ) (Yes : Bor (List ℕ) → Type 0) (No : E → Type 0) → (r : Result (Bor (List ℕ)) E)
    → MatchResult r (λ s. Yes s × IsUtf8 bytes) (λ e. ¬ (IsUtf8 bytes) × No e) → is_ok r ≡ is_utf8 bytes
says bytes Yes No (Ok s) h = sym (is_utf8-from_IsUtf8 bytes h.1)
says bytes Yes No (Err e) h = sym (false_from_ne_true (is_utf8 bytes) (λ is. h.0 (IsUtf8-from_is_utf8 bytes is)))

pub returns : goal.returns
returns c =
    let bytes = c.args.bytes.now in
    let text = c.loop-index.text.items in
    let is : c.is_ok-is_utf8.result ≡ is_utf8 bytes = c.is_ok-is_utf8.ensures.value ∙ says bytes _ _ c.from_utf8.result c.from_utf8.ensures.cases in (
      sym (append-nil text)
          ∙ ap (λ l. text ++ single_spaces c.loop-index.before (shown_bytes c.is_ok-is_utf8.result c.loop-index.hidden l)) (sym (drop_all c.loop-index.index bytes c.loop-index-test.false))
          ∙ c.loop-index.invariant
          ∙ ap (λ u. c.args.text.now.items ++ single_spaces 32 (shown_bytes u 0 bytes)) is,
      tt,
    )
