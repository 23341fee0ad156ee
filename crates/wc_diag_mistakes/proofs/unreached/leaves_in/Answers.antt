use Rattle.wc_model.proofs.Common.{◌≡◌, ◌+◌, ◌-◌, ◌<◌, ℕ, List, false, true, drop, sym, ap, ◌∙◌, arith, list_any}
use Rattle.wc_diag_mistakes.proofs.Leaving.{decides, leaves_at, one_more, passes_at, says, undecided}
use Rattle.wc_lexer.specs.declared.shape.Token.{Token}
use Rattle.wc_diag_mistakes.proofs.unreached.leaves_in.Goals as goal

-- the loop's index is one above that of the token
below : (tokens : List Token) (index : ℕ) → 0 < index → list_any decides (drop index tokens) ≡ false → list_any decides (drop ((index - 1) + 1) tokens) ≡ false
below tokens index more e = ap (λ n. list_any decides (drop n tokens)) (omega (arith, more)) ∙ e

pub returns-then-leaves : goal.returns-then-leaves
returns-then-leaves c =
    says true c.args.tokens.now (sym (leaves_at c.args.tokens.now (c.loop-index.index - 1) _ (omega (arith, c.loop-index-test.true, c.loop-index.auto.index)) (below c.args.tokens.now c.loop-index.index (omega (arith, c.loop-index-test.true)) c.loop-index.invariant)
    (sym c.leaves.ensures ∙ c.if-leaves.true)))

pub returns-then-may_pass : goal.returns-then-may_pass
returns-then-may_pass c =
    says false c.args.tokens.now (sym (passes_at c.args.tokens.now (c.loop-index.index - 1) _ (omega (arith, c.loop-index-test.true, c.loop-index.auto.index)) (below c.args.tokens.now c.loop-index.index (omega (arith, c.loop-index-test.true)) c.loop-index.invariant)
    (sym c.leaves.ensures ∙ c.if-leaves.false) (sym c.may_pass.ensures ∙ c.if-may_pass.true)))

pub loop-index-preserved : goal.loop-index-preserved
loop-index-preserved c =
    one_more c.args.tokens.now (c.loop-index.index - 1) _ (omega (arith, c.loop-index-test.true, c.loop-index.auto.index)) (below c.args.tokens.now c.loop-index.index (omega (arith, c.loop-index-test.true)) c.loop-index.invariant)
    (sym c.leaves.ensures ∙ c.if-leaves.false) (sym c.may_pass.ensures ∙ c.if-may_pass.false)

pub returns : goal.returns
returns c =
    let all : c.loop-index.index ≡ 0 = omega (arith, c.loop-index-test.false) in
    says false c.args.tokens.now
    (sym (undecided false c.args.tokens.now (sym (ap (λ n. list_any decides (drop n c.args.tokens.now)) all) ∙ c.loop-index.invariant)))
