use Rattle.std.proofs.Common.{◌++◌, ◌∷◌, [], if◌then◌else◌, not, refl, ◌≡◌, ◌∙◌, ◌+◌, ◌≤◌, ap, arith, count_by, length, length-drop, map, take, subst, subst₂, sym}
use Rattle.wc_lexer.proofs.Feeds.{IsStep, space_feeds, step_feeds, token_feeds}
use Rattle.wc_lexer.proofs.Steps.{counted_on, cut_at_end, fault_here, going_on, going_with, pass_is_filled, memory_here, take_is_filled, Going}
use Rattle.wc_lexer.proofs.text.tokens_or_stop.Goals as goal
use Rattle.wc_lexer.proofs.text.tokens_or_stop.Goals.{in-Space, in-Comment, in-Lexeme+else-is_err}
use Rattle.wc_lexer.specs.Views.{IsWithin, sight_of, shape_view, token_view}
use Rattle.std.proofs.lemmas.List.{map-append}
use Rattle.wc_lexer.specs.declared.shape.Token.{Token}
use Rattle.wc_lexer.specs.Spans.{NoSlice, stuck_length}
use Rattle.wc_model.specs.Text.Characters.{is_line_feed}

pub returns-then-text-gt-MOST_BYTES-clause-stopped : goal.returns-then-text-gt-MOST_BYTES-clause-stopped
returns-then-text-gt-MOST_BYTES-clause-stopped c = rw c.stop_without_slice.ensures (NoSlice c.if-text-gt-MOST_BYTES.true)

pub returns-in-Fault-clause-stopped : goal.returns-in-Fault-clause-stopped
returns-in-Fault-clause-stopped c =
    rw c.stop_at.ensures (fault_here c.args.text.now c.split_at.result.1.now c.loop-start.start c.in-Fault.number c.loop-start.line (stuck_length c.split_at.result.1.now) refl (map token_view c.loop-start.tokens.items) (omega arith) c.split_at.ensures.back c.loop-start-test.true (sym (ap sight_of c.in-Fault.is) ∙ c.first_element.ensures.sight) c.loop-start.invariant.counted c.loop-start.invariant.going)

pub returns-then-is_err-clause-stopped : goal.returns-then-is_err-clause-stopped
returns-then-is_err-clause-stopped c =
    rw c.stop_without_slice-then-is_err.ensures (memory_here c.args.text.now c.split_at.result.1.now c.loop-start.start c.in-Lexeme.count (shape_view c.in-Lexeme.shape) (map token_view c.loop-start.tokens.items) (omega arith) c.split_at.ensures.back c.loop-start-test.true (sym (ap sight_of c.in-Lexeme.is) ∙ c.first_element.ensures.sight) c.loop-start.invariant.going)

pub returns-clause-cut : goal.returns-clause-cut
returns-clause-cut c = (omega arith, cut_at_end c.args.text.now c.loop-start.start (map token_view c.loop-start.tokens.items) c.loop-start-test.false c.loop-start.invariant.going)

-- what the slice that is here passes
stepped : (c : goal.Joined-first_element) → IsStep c.split_at.result.1.now c.match-first_element.count
stepped c = elim c.match-first_element.branch [
  | in-Space w ↦
      let here : 1 ≤ length c.split_at.result.1.now = subst (IsWithin (length c.split_at.result.1.now)) w.in-Space.is c.first_element.ensures.within in
      subst (IsStep c.split_at.result.1.now) (sym w.count-is) (omega arith, here, space_feeds c.args.text.now c.split_at.result.1.now c.loop-start.start c.split_at.ensures.back c.loop-start-test.true (sym (ap sight_of w.in-Space.is) ∙ c.first_element.ensures.sight))
  | in-Comment w ↦
      let here : w.in-Comment.count ≤ length c.split_at.result.1.now = subst (IsWithin (length c.split_at.result.1.now)) w.in-Comment.is c.first_element.ensures.within in
      let some = pass_is_filled c.args.text.now c.split_at.result.1.now c.loop-start.start w.in-Comment.count c.split_at.ensures.back c.loop-start-test.true (sym (ap sight_of w.in-Comment.is) ∙ c.first_element.ensures.sight) in
      subst (IsStep c.split_at.result.1.now) (sym w.count-is) (some, here, w.line_feeds.ensures.counted ∙ ap (count_by is_line_feed) w.split_at-in-Comment.ensures.front)
  | in-Lexeme+else-is_err w ↦
      let here : w.in-Lexeme.count ≤ length c.split_at.result.1.now = subst (IsWithin (length c.split_at.result.1.now)) w.in-Lexeme.is c.first_element.ensures.within in
      let seen = sym (ap sight_of w.in-Lexeme.is) ∙ c.first_element.ensures.sight in
      let some = take_is_filled c.args.text.now c.split_at.result.1.now c.loop-start.start w.in-Lexeme.count (shape_view w.in-Lexeme.shape) c.split_at.ensures.back c.loop-start-test.true seen in
      subst (IsStep c.split_at.result.1.now) (sym w.count-is) (some, here, token_feeds c.args.text.now c.split_at.result.1.now c.loop-start.start w.in-Lexeme.count w.first_feeds.result (shape_view w.in-Lexeme.shape) c.split_at.ensures.back c.loop-start-test.true seen some w.first_feeds.ensures)
]

pub loop-start-smaller : goal.loop-start-smaller
loop-start-smaller c = omega (arith, (stepped c).0, c.loop-start-test.true)

pub loop-start-preserved : goal.loop-start-preserved
loop-start-preserved c = record {
  within = omega (arith, (stepped c).1, ap length c.split_at.ensures.back, length-drop c.loop-start.start c.args.text.now, c.loop-start-test.true);
  bounded = omega (arith, step_feeds c.split_at.result.1.now c.match-first_element.count (stepped c), c.loop-start.invariant.bounded);
  counted = counted_on c.args.text.now c.split_at.result.1.now (take c.match-first_element.count.0 c.split_at.result.1.now) c.loop-start.start c.match-first_element.count.0 c.loop-start.line c.match-first_element.count.1 c.split_at.ensures.back refl c.loop-start.invariant.counted (stepped c).2;
  going = elim c.match-first_element.branch [
    | in-Space w ↦
        subst₂ (λ k ts. Going c.args.text.now (c.loop-start.start + k) (map token_view ts.items)) (sym (ap (λ s. s.0) w.count-is)) (sym w.tokens-is) (going_on c.args.text.now c.split_at.result.1.now c.loop-start.start 1 (map token_view c.loop-start.tokens.items) c.split_at.ensures.back c.loop-start-test.true (sym (ap sight_of w.in-Space.is) ∙ c.first_element.ensures.sight) c.loop-start.invariant.going)
    | in-Comment w ↦
        subst₂ (λ k ts. Going c.args.text.now (c.loop-start.start + k) (map token_view ts.items)) (sym (ap (λ s. s.0) w.count-is)) (sym w.tokens-is) (going_on c.args.text.now c.split_at.result.1.now c.loop-start.start w.in-Comment.count (map token_view c.loop-start.tokens.items) c.split_at.ensures.back c.loop-start-test.true (sym (ap sight_of w.in-Comment.is) ∙ c.first_element.ensures.sight) c.loop-start.invariant.going)
    | in-Lexeme+else-is_err w ↦
        let items = c.loop-start.tokens.items in
        let token : Token = record { shape = w.in-Lexeme.shape; text = w.split_at-in-Lexeme.result.0; start = c.loop-start.start; line = c.loop-start.line } in
        let taken = w.push.ensures.items ∙ ap (λ v. if v then items ++ (token ∷ []) else items) (w.is_err.ensures.negation ∙ ap not w.if-is_err.false) in
        let said : map token_view w.push.new.self.items ≡ map token_view items ++ (token_view token ∷ []) = ap (map token_view) taken ∙ map-append token_view items (token ∷ []) in
        let more = going_with c.args.text.now c.split_at.result.1.now c.loop-start.start w.in-Lexeme.count (map token_view items) (token_view token) c.split_at.ensures.back c.loop-start-test.true (sym (ap sight_of w.in-Lexeme.is) ∙ c.first_element.ensures.sight) w.split_at-in-Lexeme.ensures.front refl c.loop-start.invariant.counted c.loop-start.invariant.going in
        subst₂ (λ k ts. Going c.args.text.now (c.loop-start.start + k) (map token_view ts.items)) (sym (ap (λ s. s.0) w.count-is)) (sym w.tokens-is) (subst (Going c.args.text.now (c.loop-start.start + w.in-Lexeme.count)) (sym said) more)
  ];
}
