use Rattle.std.proofs.Common.{not, ap, sym, ◌∙◌}
use Rattle.wc_model.specs.Definitions.{is_among, name_of}
use Rattle.wc_names.proofs.KeyNames.{keys_any, keys_more}
use Rattle.wc_names.proofs.names.Names.add.Goals as goal
use Rattle.wc_names.proofs.names.Names.add.Goals.{in-Ok, in-Err}

pub returns-clause-new : goal.returns-clause-new
returns-clause-new c = elim c.match-insert.branch [
  | in-Ok w ↦ rw w.result-is (w.in-Ok.ensures.added ∙ ap not (keys_any (record { text = c.args.name }) c.self.inside.keys.keys) ∙ ap (λ names. not (is_among names (name_of c.args.name.now))) c.self.view_is)
  | in-Err w ↦ rw w.result-is tt
]

pub returns-clause-names : goal.returns-clause-names
returns-clause-names c = elim c.match-insert.branch [
  | in-Ok w ↦ rw w.result-is (keys_more (record { text = c.args.name }) c.self.inside.keys.keys c.insert.new.self.keys c.args.self.now w.in-Ok.new c.self.view_is w.in-Ok.ensures.keys w.in-Ok.ensures.added)
  | in-Err w ↦ rw w.result-is tt
]

pub returns-clause-fails : goal.returns-clause-fails
returns-clause-fails c = elim c.match-insert.branch [
  | in-Ok w ↦ rw w.result-is tt
  | in-Err w ↦ rw w.result-is (sym (keys_any (record { text = c.args.name }) c.self.inside.keys.keys ∙ ap (λ names. is_among names (name_of c.args.name.now)) c.self.view_is) ∙ w.in-Err.ensures.absent)
]
