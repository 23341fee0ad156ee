use Rattle.std.proofs.Common.{◌≤◌, ◌++◌, length, map, sym, ap, ◌∙◌, subst}
use Rattle.std.proofs.lemmas.List.{append-nil, drop_all}
use Rattle.wc_diag_warnings.proofs.NameSets.{declared_views}
use Rattle.wc_diag_warnings.specs.{uses_view, variable_view, warnings_view, declared_warnings}
use Rattle.wc_diag_warnings.proofs.declared.warn_declaration.Goals as goal

pub returns : goal.returns
returns c = record {
  added =
      let uses = uses_view c.args.uses.now in
      let declaration = c.args.declaration.now in
      let found = warnings_view c.loop-word.warnings.items in
      let past : length declaration.names.items ≤ c.loop-word.word-index =
      subst (λ xs. length xs ≤ c.loop-word.word-index) c.deref-word-items.ensures.value c.loop-word-test.false in
      sym (append-nil found)
      ∙ sym (ap (λ ws. found ++ declared_warnings c.args.kind uses (map (variable_view declaration) ws))
      (drop_all c.loop-word.word-index declaration.names.items past))
      ∙ c.loop-word.invariant
      ∙ sym (ap (λ vs. warnings_view c.args.warnings.now.items ++ declared_warnings c.args.kind uses vs) (declared_views declaration));
}
