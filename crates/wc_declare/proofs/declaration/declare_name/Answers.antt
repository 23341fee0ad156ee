use Rattle.std.proofs.Common.{◌≡◌, Bool, true, false, not, refl, sym, ◌∙◌}
use Rattle.wc_model.specs.Definitions.{is_among, name_view}
use Rattle.wc_declare.proofs.declaration.declare_name.Goals as goal

negated : (a b : Bool) → b ≡ true → b ≡ not a → a ≡ false
negated true b e f = let g : true ≡ false = sym e ∙ f in cc
negated false b e f = refl

pub returns-then-branch-clause-new : goal.returns-then-branch-clause-new
returns-then-branch-clause-new c = negated (is_among c.args.names.now (name_view c.args.word)) c.in_ok-add.field-0 c.if-branch.true c.in_ok-add.ensures.new
