use Rattle.wc_model.proofs.Common.{◌≡◌, ◌∙◌, [], ◌∷◌, Some, ap, arith, get_or, of_z, pos, rules, suc, to_z, w32, zero, ℤ, to_z-of_z}
use Rattle.std.specs.Prelude.{FitsSigned}
use Rattle.wc_view_columns.proofs.state.words_of.Goals as goal
use Rattle.wc_view_columns.specs.Held.{span_of}
use Rattle.wc_view_columns.specs.declared.span.NumberSpan.{NumberSpan}

raw : (span : NumberSpan) (word : ℤ) → FitsSigned w32 word → Some span ≡ span_of (to_z w32 (of_z w32 word) ∷ []) → Some span ≡ span_of (word ∷ [])
raw span word fits is = is ∙ ap (λ w. span_of (w ∷ [])) (to_z-of_z w32 word fits)

pub returns : goal.returns
returns c other zero within = raw c.word_span.result (get_or c.args.outputs.now.words 0 (pos 0)) (search rules) c.word_span.ensures
returns c other (suc zero) within = raw c.word_span-2.result (get_or c.args.outputs.now.words 1 (pos 0)) (search rules) c.word_span-2.ensures
returns c other (suc (suc zero)) within = raw c.word_span-3.result (get_or c.args.outputs.now.words 2 (pos 0)) (search rules) c.word_span-3.ensures
returns c other (suc (suc (suc zero))) within = raw c.word_span-4.result (get_or c.args.outputs.now.words 3 (pos 0)) (search rules) c.word_span-4.ensures
returns c other (suc (suc (suc (suc i)))) within = absurd (omega arith)
