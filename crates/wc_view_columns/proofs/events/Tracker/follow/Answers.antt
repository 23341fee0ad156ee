use Rattle.wc_model.proofs.Common.{ℕ, ◌<◌, List, ◌++◌, ◌∷◌, [], length, take, get_or, ap, sym, ◌∙◌, subst, arith, append_assoc, take_all, take_more}
use Rattle.wc_laws_instrument.proofs.Requests.{requests_in_again}
use Rattle.wc_view_columns.specs.Followed.{HasFollowed}
use Rattle.wc_model.specs.Instrument.Requests.{requests_in}
use Rattle.wc_sma.specs.Feeding.{HasRead}
use Rattle.wc_view_columns.proofs.events.Tracker.follow.Goals as goal

pub loop-byte-preserved : goal.loop-byte-preserved
loop-byte-preserved c =
    let bytes : List ℕ = c.args.bytes.now in
    let i : ℕ = c.loop-byte.byte-index in
    let here : i < length bytes = omega (arith, c.loop-byte-test.true) in
    record {
      within = c.take.ensures.within;
      read = λ before was.
          subst (λ b. HasRead c.take.new.self.requests (before ++ b)) (sym (take_more bytes i 0 here))
          (subst (λ b. HasRead c.take.new.self.requests b) (append_assoc before (take i bytes) (get_or bytes i 0 ∷ []))
          (c.take.ensures.read (before ++ take i bytes) (c.loop-byte.invariant.read before was)));
      followed = λ before was.
          subst (λ texts. HasFollowed c.args.ms texts c.args.answers.now c.take.new.at c.take.new.events)
          (sym (ap (λ b. requests_in before b) (take_more bytes i 0 here) ∙ requests_in_again before (take i bytes) (get_or bytes i 0 ∷ [])))
          (c.take.ensures.followed (before ++ take i bytes) (requests_in before (take i bytes)) (c.loop-byte.invariant.read before was) (c.loop-byte.invariant.followed before was));
    }

pub returns-clause-read : goal.returns-clause-read
returns-clause-read c before was =
    subst (λ b. HasRead c.loop-byte.self.requests (before ++ b)) (take_all c.loop-byte.byte-index c.args.bytes.now (omega (arith, c.loop-byte-test.false)))
    (c.loop-byte.invariant.read before was)

pub returns-clause-followed : goal.returns-clause-followed
returns-clause-followed c before was = (
  c.loop-byte.at,
  subst (λ b. HasFollowed c.args.ms (requests_in before b) c.args.answers.now c.loop-byte.at c.loop-byte.events) (take_all c.loop-byte.byte-index c.args.bytes.now (omega (arith, c.loop-byte-test.false)))
      (c.loop-byte.invariant.followed before was),
)
