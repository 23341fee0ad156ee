use Rattle.wc_model.proofs.Common.{◌≡◌, ◌+◌, ◌-◌, ◌++◌, ℕ, List, [], suc, drop, length, Global, Result, Vec, ap, sym, subst, ◌∙◌, append-nil, arith, IfOk, IsOkUnless, slice_index, drop_all}
use borrow.Author.Tests.{ltb-false}
use Rattle.wc_text_flat.specs.FlatPaths.{from_line, worst_from, worst_of}
use Rattle.wc_model.specs.declared.code.Code.{Code}
use Rattle.wc_model.specs.declared.fault.Fault.{Fault}
use Rattle.wc_model.specs.declared.fault.Fault.TheVariants.{Memory}
use Rattle.wc_names.proofs.HandedOn.{propagated}
use Rattle.wc_cost.specs.PathLengths.{ArePathLengths, own_source}
use Rattle.wc_cost.proofs.WorstLengths.{after_all, executed, passed_over}
use Rattle.wc_cost.proofs.path_lengths.worst_lines.Goals as goal

pub loop-index-preserved-then-left-gt0 : goal.loop-index-preserved-then-left-gt0
loop-index-preserved-then-left-gt0 c = λ bounds are.
    let more = c.loop-index.left - 1 in
    let e : c.loop-index.left ≡ suc more = omega arith in
    passed_over bounds c.args.code.now c.args.sources.now c.loop-index.index c.loop-index.left more c.loop-index.lines.items c.loop-index-test.true e (c.loop-index.invariant bounds are)

pub loop-index-preserved : goal.loop-index-preserved
loop-index-preserved c = λ bounds are.
    let i = c.loop-index.index in
    let code = c.args.code.now in
    let sources = c.args.sources.now in
    let e : c.loop-index.left ≡ 0 = omega arith in
    executed bounds code sources i c.loop-index.left c.lines_passed-left.result c.in-Some.line.now c.loop-index.lines.items c.list.new.lines.items c.in-Some.ensures.lookup.3.0 c.in-Some.ensures.lookup.1 e
    (c.lines_passed-left.ensures bounds (slice_index sources i) (worst_from bounds (drop (i + 1) code) (drop (i + 1) sources)) (after_all bounds code c.args.path_lengths.now are sources (i + 1)))
    (c.in_ok-list.ensures.listed ∙ ap (λ s. c.loop-index.lines.items ++ own_source c.in-Some.line.now s) c.source_at.ensures) (c.loop-index.invariant bounds are)

pub loop-index-init : goal.loop-index-init
loop-index-init c = λ bounds are. ap (λ (l : List ℕ). l ++ (worst_of bounds c.args.code.now c.args.sources.now).lines) c.new-lines.ensures.items

pub loop-index-preserved-in_default : goal.loop-index-preserved-in_default
loop-index-preserved-in_default c =
    let past = ltb-false c.loop-index.index (length c.args.code.now) (sym c.in_default.ensures.lookup.0) in
    let below = c.loop-index-test.true in
    absurd (omega (arith, past, below))

pub returns-in_err-list-clause-lines : goal.returns-in_err-list-clause-lines
returns-in_err-list-clause-lines c =
    let code = c.args.code.now in
    propagated (λ (r : Result (Vec ℕ Global) Fault). IfOk r (λ lines. (bounds : List ℕ) → ArePathLengths bounds code c.args.path_lengths.now → lines.items ≡ (worst_of bounds code c.args.sources.now).lines))
    c.in_err-list.field-0.0 c.from_residual.result c.from_residual.ensures tt

pub returns-in_err-list-clause-memory : goal.returns-in_err-list-clause-memory
returns-in_err-list-clause-memory c =
    propagated (λ (r : Result (Vec ℕ Global) Fault). IsOkUnless r Memory) c.in_err-list.field-0.0 c.from_residual.result c.from_residual.ensures c.in_err-list.ensures.memory

pub returns-clause-lines : goal.returns-clause-lines
returns-clause-lines c = λ bounds are.
    let code = c.args.code.now in
    let sources = c.args.sources.now in
    let i = c.loop-index.index in
    let lines = c.loop-index.lines.items in
    let end : drop i code ≡ [] = drop_all i code c.loop-index-test.false in
    sym (append-nil lines) ∙ subst (λ (left : List Code). lines ++ (from_line (worst_from bounds left (drop i sources)) c.loop-index.left).lines ≡ (worst_of bounds code sources).lines) end (c.loop-index.invariant bounds are)

pub returns-clause-memory : goal.returns-clause-memory
returns-clause-memory c = tt
