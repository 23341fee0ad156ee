use Rattle.std.proofs.Common.{◌≡◌, ◌-◌, ℕ, List, ap, subst, sym, take, drop, length, ◌∙◌, arith, length-drop}
use Rattle.wc_model.proofs.Common.{take-add, take-length, Appends-trans, Appends}
use Rattle.wc_model.proofs.writing.write_whole.Goals as goal

-- what is from a place on is all that is left there
whole_rest : (n : ℕ) (xs : List ℕ) → take (length xs - n) (drop n xs) ≡ drop n xs
whole_rest n xs = ap (λ k. take k (drop n xs)) (sym (length-drop n xs)) ∙ take-length (drop n xs)

pub loop-at-preserved : goal.loop-at-preserved
loop-at-preserved g c =
    let rest : take (length c.args.text.now - c.loop-at.at) (drop c.loop-at.at c.args.text.now) ≡ drop c.loop-at.at c.args.text.now = whole_rest c.loop-at.at c.args.text.now in
    record {
      within = omega (arith, c.in_ok-count.ensures.some.1, ap length rest, length-drop c.loop-at.at c.args.text.now, c.loop-at.invariant.within);
      taken = subst (λ t. Appends (g.W.ByteOut.bytes_taken c.args.writer.now) (g.W.ByteOut.bytes_taken c.write_some.new.writer) t)
          (sym (take-add c.loop-at.at c.in_ok-count.count c.args.text.now))
          (Appends-trans (g.W.ByteOut.bytes_taken c.args.writer.now) (g.W.ByteOut.bytes_taken c.loop-at.writer) (g.W.ByteOut.bytes_taken c.write_some.new.writer)
          (take c.loop-at.at c.args.text.now) (take c.in_ok-count.count (drop c.loop-at.at c.args.text.now)) c.loop-at.invariant.taken
          (subst (λ t. Appends (g.W.ByteOut.bytes_taken c.loop-at.writer) (g.W.ByteOut.bytes_taken c.write_some.new.writer) (take c.in_ok-count.count t)) rest c.in_ok-count.ensures.taken));
      steady = c.in_ok-count.ensures.steady ∙ c.loop-at.invariant.steady;
    }
