use Rattle.std.proofs.Common.{◌≡◌, ◌∙◌, ◌+◌, ◌&&◌, Bool, true, false, if◌then◌else◌, Some, refl, ap, sym, subst, get_or, arith}
use Rattle.std.specs.Prelude.{is_some}
use Rattle.wc_diag_mistakes.proofs.Declaring.{FoundBefore, found_alone, line_at, none_alone, second_token, token_more}
use Rattle.wc_diag_mistakes.proofs.unreached.block_line.Goals as goal
use Rattle.wc_diag_mistakes.proofs.unreached.block_line.Goals.{then-declares+else-is_some, else-declares}

both : (a b : Bool) → a ≡ true → b ≡ true → (a && b) ≡ true
both a b e f = rw (e, f) refl

single : (a b : Bool) → b ≡ false → (a && b) ≡ false
single true b e = e
single false b e = refl

pub loop-index-init : goal.loop-index-init
loop-index-init c = λ other within declared. absurd (omega (arith, within))

pub returns-then-is_some-clause-none : goal.returns-then-is_some-clause-none
returns-then-is_some-clause-none c =
    second_token c.args.tokens.now c.args.name.now c.loop-index.index c.loop-index.found
    (both _ _ (sym c.declares.ensures ∙ c.if-declares.true) (sym c.is_some.ensures ∙ c.if-is_some.true))
    c.loop-index.invariant

pub loop-index-preserved : goal.loop-index-preserved
loop-index-preserved c =
    let tokens = c.args.tokens.now in
    let name = c.args.name.now in
    let index = c.loop-index.index in
    let line = (get_or tokens index _).line in
    let more = token_more tokens name index line c.loop-index.found (line_at tokens index _ c.loop-index-test.true) in
    elim c.if-declares.branch [
      | then-declares+else-is_some w ↦
          subst (FoundBefore tokens name (index + 1)) (sym w.found-is)
          (subst (λ b. FoundBefore tokens name (index + 1) (if b then Some line else c.loop-index.found)) (sym c.declares.ensures ∙ w.if-declares.true)
          (more (single _ _ (sym w.is_some.ensures ∙ w.if-is_some.false)) c.loop-index.invariant))
      | else-declares w ↦
          subst (FoundBefore tokens name (index + 1)) (sym w.found-is)
          (subst (λ b. FoundBefore tokens name (index + 1) (if b then Some line else c.loop-index.found)) (sym c.declares.ensures ∙ w.if-declares.false)
          (more (ap (λ b. b && is_some c.loop-index.found) (sym c.declares.ensures ∙ w.if-declares.false)) c.loop-index.invariant))
    ]

pub returns-clause-found : goal.returns-clause-found
returns-clause-found c = found_alone c.args.tokens.now c.args.name.now c.loop-index.index c.loop-index.found c.loop-index-test.false c.loop-index.invariant

pub returns-clause-none : goal.returns-clause-none
returns-clause-none c = none_alone c.args.tokens.now c.args.name.now c.loop-index.index c.loop-index.found c.loop-index-test.false c.loop-index.invariant
