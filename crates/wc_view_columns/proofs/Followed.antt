-- The requests that bytes complete, with their answers.
use Rattle.wc_model.proofs.Common.{◌≡◌, ℕ, ◌+◌, Bool, false, true, List, [], ◌∷◌, ◌++◌, Some, drop, map, sym, ap, ◌∙◌, subst, arith, map-append, All-push, option_to_list}
use Rattle.std.specs.Prelude.{option_map}
use Rattle.wc_model.specs.Instrument.Answers.{command_of}
use Rattle.wc_sma.specs.Seen.{command_view}
use Rattle.wc_sma.specs.declared.command.Command.{Command}
use Rattle.wc_sma.specs.declared.command.Command.TheVariants.{TakeTare, Zero}
use Rattle.wc_view_columns.specs.{AreAnswered, AreCounted, HasFollowed, IsMarked, after_answer, is_refusal, made_by, marked_by, AreBoth, counted, AreTogether, nothing}
use Rattle.wc_view_columns.proofs.Totals.{one_together}
use Rattle.wc_view_columns.specs.declared.events.Events.{Events}
use Rattle.wc_view_columns.specs.declared.events.Request.{Request}
use Rattle.wc_view_decode.specs.AnswerBytes.{IsFirstAnswer}

-- one request more
one_made : (ms : ℕ) (command : Command) (refused : Bool) (r : Request) (made : List Events) (old : Events) (total : ℕ) → AreTogether made old
    → total ≡ counted ((marked_by ms command refused old).requests + 1)
    → AreBoth old (record (marked_by ms command refused nothing) { requests = 1; last = Some r })
    (record (marked_by ms command refused old) { requests = total; last = Some r })
one_made ms Zero false r made old total are is = search arith
one_made ms Zero true r made old total are is = search arith
one_made ms TakeTare false r made old total are is = search arith
one_made ms TakeTare true r made old total are is = search arith
one_made ms command refused r made old total are is = search arith

pub request_counted : (made : List Request) (r : Request) (old marked : Events) (total : ℕ) → AreCounted made old → IsMarked r.ms r.command (is_refusal r.answer) old marked
    → total ≡ counted (marked.requests + 1) → AreCounted (made ++ r ∷ []) (record marked { requests = total; last = Some r })
request_counted made r old marked total are mark is =
    let left : Events = record (marked_by r.ms r.command (is_refusal r.answer) old) { requests = total; last = Some r } in
    let one = one_made r.ms r.command (is_refusal r.answer) r (map made_by made) old total are (is ∙ ap (λ (m : Events). counted (m.requests + 1)) mark) in
    subst (λ (m : Events). AreCounted (made ++ r ∷ []) (record m { requests = total; last = Some r })) (sym mark)
    (subst (λ es. AreTogether es left) (sym (map-append made_by made (r ∷ []))) (one_together (map made_by made) old (made_by r) left are one))

-- one answer more
answered_more : (requests : List Request) (r : Request) (bytes left : List ℕ) → AreAnswered requests bytes left → IsFirstAnswer r.answer left → AreAnswered (requests ++ r ∷ []) bytes (after_answer r.answer left)
answered_more [] r bytes left are is = (subst (λ b. IsFirstAnswer r.answer b) (sym are) is, ap (after_answer r.answer) are)
answered_more (q ∷ requests) r bytes left are is = (are.0, answered_more requests r (after_answer q.answer bytes) left are.1 is)

-- a request is completed
pub one_followed : (ms : ℕ) (texts more : List (List ℕ)) (answers : List ℕ) (at left : ℕ) (old new : Events) (r : Request) → HasFollowed ms texts answers at old
    → option_to_list (option_map command_view (Some r.command)) ≡ map command_of more → r.ms ≡ ms → IsFirstAnswer r.answer (drop at answers)
    → drop left answers ≡ after_answer r.answer (drop at answers) → ((requests : List Request) → AreCounted requests old → AreCounted (requests ++ r ∷ []) new)
    → HasFollowed ms (texts ++ more) answers left new
one_followed ms texts more answers at left old new r so one time first after counts = record {
  requests = so.requests ++ r ∷ [];
  commands =
      map-append (λ (q : Request). command_view q.command) so.requests (r ∷ [])
      ∙ (λ i. so.commands i ++ one i) ∙ sym (map-append command_of texts more);
  times = All-push (λ (q : Request). q.ms ≡ ms) so.requests r so.times time;
  answered = subst (λ bytes. AreAnswered (so.requests ++ r ∷ []) answers bytes) (sym after) (answered_more so.requests r answers (drop at answers) so.answered first);
  counts = counts so.requests so.counts;
}
