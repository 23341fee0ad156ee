use Rattle.std.proofs.Common.{◌||◌, sym, ap, ◌∙◌}
use Rattle.wc_diag_warnings.specs.{comes_by_jump, comes_down, edges, is_from, marks, starts, action_view}
use Rattle.wc_diag_warnings.proofs.edges.paths_to.Goals as goal

pub returns-in-Label : goal.returns-in-Label
returns-in-Label c before so_far source =
    let earlier = edges source before in
    c.both.ensures source ∙ ap (λ b. b || is_from c.to_label.result source) (so_far.next source)
    ∙ ap (λ b. comes_down (starts source) (marks source) earlier || b)
    (c.to_label.ensures source ∙ so_far.labels source (record { text = c.in-Label.label }) ∙ sym (ap (λ action. comes_by_jump earlier (action_view action)) c.in-Label.is))
