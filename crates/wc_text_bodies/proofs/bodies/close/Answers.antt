use Rattle.std.proofs.Common.{◌≡◌, [], ◌∷◌, ◌++◌, true, false, option_map, refl, sym, ap, ◌∙◌, arith}
use Rattle.wc_laws_grammar.specs.Moves.{has_content, lines_and}
use Rattle.wc_model.specs.Definitions.{line_count, lines_before, lines_opened, End, Nested, lines_view, term_view}
use Rattle.wc_text_bodies.proofs.Openings.{counted_more, opened-append}
use Rattle.wc_text_bodies.proofs.LineLists.{lines_view-push, line_count-and, seen-push}
use Rattle.wc_text_bodies.specs.Views.{position_view, opening_view, openings_view}
use Rattle.wc_text_bodies.proofs.bodies.close.Goals as goal

pub returns-in_ok-push-in-Some-clause-following : goal.returns-in_ok-push-in-Some-clause-following
returns-in_ok-push-in-Some-clause-following c = λ units innermost outer e.
    let split : opening_view c.in-Some.opening ∷ openings_view [] c.pop.new.self.items ≡ innermost ∷ outer =
    sym (opened-append [] c.pop.new.self.items c.in-Some.opening) ∙ (ap (openings_view []) (sym c.in-Some.ensures.items) ∙ e) in
    let first : opening_view c.in-Some.opening ≡ innermost = cc in
    let rest : openings_view [] c.pop.new.self.items ≡ outer = cc in
    let has : has_content (option_map term_view c.in-Some.opening.operand) (lines_view c.args.body.now.done.items) ≡ true =
    ap (λ items. has_content (option_map term_view c.in-Some.opening.operand) (lines_view items)) (sym c.deref.ensures.value) ∙ (sym c.has_content.ensures ∙ c.if-has_content.true) in
    let o = opening_view c.in-Some.opening in
    let items : c.push.new.self.items ≡ c.in-Some.opening.before.items ++ c.nested_line.result ∷ [] =
    c.in_ok-push-in-Some.ensures.items ∙ ap (λ v. v.items ++ c.nested_line.result ∷ []) c.replace-inside.ensures.after in
    let tree : lines_view c.push.new.self.items ≡ lines_and o.before (Nested o.label o.line o.operator o.operand (lines_view c.args.body.now.done.items) c.args.close End) =
    lines_view-push c.in-Some.opening.before.items c.push.new.self.items c.nested_line.result items
    ∙ ap (lines_and o.before) (c.nested_line.ensures End ∙ ap (λ v. Nested o.label o.line o.operator o.operand (lines_view v.items) c.args.close End) c.replace-inside.ensures.value) in
    rw (← first, ← rest, has, tree) refl

pub returns-in_ok-push-in-Some-clause-counted : goal.returns-in_ok-push-in-Some-clause-counted
returns-in_ok-push-in-Some-clause-counted c = λ closed.
    let o = opening_view c.in-Some.opening in
    let items : c.push.new.self.items ≡ c.in-Some.opening.before.items ++ c.nested_line.result ∷ [] =
    c.in_ok-push-in-Some.ensures.items ∙ ap (λ v. v.items ++ c.nested_line.result ∷ []) c.replace-inside.ensures.after in
    let tree : lines_view c.push.new.self.items ≡ lines_and o.before (Nested o.label o.line o.operator o.operand (lines_view c.args.body.now.done.items) c.args.close End) =
    lines_view-push c.in-Some.opening.before.items c.push.new.self.items c.nested_line.result items
    ∙ ap (lines_and o.before) (c.nested_line.ensures End ∙ ap (λ v. Nested o.label o.line o.operator o.operand (lines_view v.items) c.args.close End) c.replace-inside.ensures.value) in
    let opened = ap lines_opened (ap (openings_view []) c.in-Some.ensures.items ∙ opened-append [] c.pop.new.self.items c.in-Some.opening) in
    let done = ap line_count tree in
    let both = line_count-and o.before (Nested o.label o.line o.operator o.operand (lines_view c.args.body.now.done.items) c.args.close End) in
    let more = counted_more (lines_before (position_view [] c.args.body.now)) c.args.body.now.count c.one_more-body.result c.requires.count c.one_more-body.ensures in record {
      count = omega (arith, opened, done, both, more);
      seen = seen-push c.in-Some.opening.before.items c.push.new.self.items c.nested_line.result items (rw (c.nested_line.ensures End) refl);
    }

pub returns-else-has_content-clause-following : goal.returns-else-has_content-clause-following
returns-else-has_content-clause-following c = λ units innermost outer e.
    let split : opening_view c.in-Some.opening ∷ openings_view [] c.pop.new.self.items ≡ innermost ∷ outer =
    sym (opened-append [] c.pop.new.self.items c.in-Some.opening) ∙ (ap (openings_view []) (sym c.in-Some.ensures.items) ∙ e) in
    let first : opening_view c.in-Some.opening ≡ innermost = cc in
    let rest : openings_view [] c.pop.new.self.items ≡ outer = cc in
    let has : has_content (option_map term_view c.in-Some.opening.operand) (lines_view c.args.body.now.done.items) ≡ false =
    ap (λ items. has_content (option_map term_view c.in-Some.opening.operand) (lines_view items)) (sym c.deref.ensures.value) ∙ (sym c.has_content.ensures ∙ c.if-has_content.false) in
    rw (← first, ← rest, has) refl
