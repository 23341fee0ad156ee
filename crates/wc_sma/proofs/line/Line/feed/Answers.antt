use Rattle.wc_model.proofs.Common.{◌≡◌, ℕ, ◌+◌, ◌<◌, suc, List, [], ◌∷◌, ◌++◌, length, get_or, take, drop, ap, sym, ◌∙◌, subst, arith, take-append-drop}
use Rattle.std.proofs.Math.Seq.{take-add, drop-cons}
use Rattle.std.specs.Prelude.{Result, Ok, Err, IfErr}
use Rattle.wc_sma.specs.Feeding.{Feeds, Fails}
use Rattle.wc_sma.proofs.Chunks.{feeds_on, fails_on, fails_early}
use Rattle.wc_sma.proofs.line.Line.feed.Goals as goal

-- what holds at all holds of a fault
of_fault : {T E : Type 0} (P : Type 0) (r : Result T E) → P → IfErr r (λ e. P)
of_fault P (Ok x) h = tt
of_fault P (Err e) h = h

-- one byte more
one_byte_more : (i : ℕ) (bytes : List ℕ) → i < length bytes → take (i + 1) bytes ≡ take i bytes ++ (get_or bytes i 0 ∷ [])
one_byte_more i bytes h = take-add i 1 bytes ∙ ap (λ r. take i bytes ++ take 1 r) (drop-cons bytes i 0 h)

-- a chunk, cut before a byte
cut_at : (i : ℕ) (bytes : List ℕ) → i < length bytes → take i bytes ++ (get_or bytes i 0 ∷ drop (suc i) bytes) ≡ bytes
cut_at i bytes h = ap (λ r. take i bytes ++ r) (sym (drop-cons bytes i 0 h)) ∙ take-append-drop i bytes

pub returns-in_err-take_byte-clause-fails : goal.returns-in_err-take_byte-clause-fails
returns-in_err-take_byte-clause-fails g c =
    let bytes : List ℕ = c.args.chunk.now in
    let i : ℕ = c.loop-byte.byte-index in
    let taken = g.W.ByteOut.bytes_taken in
    let here : i < length bytes = omega (arith, c.loop-byte-test.true) in
    of_fault _ c.from_residual.result
    (subst (λ chunk. Fails c.args.self.now c.args.indicator.now (taken c.args.writer.now) c.take_byte.new.self c.take_byte.new.indicator (taken c.take_byte.new.writer) chunk)
    (cut_at i bytes here)
    (fails_on c.args.self.now c.loop-byte.self c.take_byte.new.self c.args.indicator.now c.loop-byte.indicator c.take_byte.new.indicator
    (taken c.args.writer.now) (taken c.loop-byte.writer) (taken c.take_byte.new.writer) (take i bytes) (get_or bytes i 0 ∷ drop (suc i) bytes)
    c.loop-byte.invariant.feeds
    (fails_early c.loop-byte.self c.take_byte.new.self c.loop-byte.indicator c.take_byte.new.indicator (taken c.loop-byte.writer) (taken c.take_byte.new.writer)
    (get_or bytes i 0 ∷ []) (drop (suc i) bytes) c.in_err-take_byte.ensures.fails)))

pub loop-byte-preserved : goal.loop-byte-preserved
loop-byte-preserved g c =
    let bytes : List ℕ = c.args.chunk.now in
    let i : ℕ = c.loop-byte.byte-index in
    let taken = g.W.ByteOut.bytes_taken in
    let here : i < length bytes = omega (arith, c.loop-byte-test.true) in
    record {
      feeds = subst (λ chunk. Feeds c.args.self.now c.args.indicator.now (taken c.args.writer.now) c.take_byte.new.self c.take_byte.new.indicator (taken c.take_byte.new.writer) chunk)
          (sym (one_byte_more i bytes here))
          (feeds_on c.args.self.now c.loop-byte.self c.take_byte.new.self c.args.indicator.now c.loop-byte.indicator c.take_byte.new.indicator
          (taken c.args.writer.now) (taken c.loop-byte.writer) (taken c.take_byte.new.writer) (take i bytes) (get_or bytes i 0 ∷ [])
          c.loop-byte.invariant.feeds c.in_ok-take_byte.ensures.feeds);
      works = c.in_ok-take_byte.ensures.works;
      steady = c.in_ok-take_byte.ensures.steady ∙ c.loop-byte.invariant.steady;
    }
